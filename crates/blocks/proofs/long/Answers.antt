-- `blocks::long` keeps what it promises inside the crate: by each rule a law of `GroupReading` for a number, and one for a refusal.
use Rattle.std.specs.Prelude.{ℤ}
use Rattle.std.proofs.Common.{ℕ, ◌+◌, ◌≤◌, ◌≡◌, List, length, ap, sym, ◌∙◌, arith, rules, Ok}
use Rattle.words.specs.declared.Count.{Count}
use Rattle.words.specs.Answer.{Reading, means_read}
use Rattle.groups.specs.Group.{Bytes}
use Rattle.groups.proofs.SignedWords.{word_back}
use Rattle.uleb128.specs.Unsigned.{u64}
use Rattle.uleb128.specs.Promise.{ReadsU64}
use Rattle.uleb128.proofs.Widths as U
use Rattle.sleb128.specs.Signed.{i64}
use Rattle.sleb128.specs.Promise.{ReadsI64}
use Rattle.sleb128.proofs.Widths as S
use Rattle.blocks.specs.Block.{unsigned, signed, read_by, number}
use Rattle.blocks.specs.Inner.{standing}
use Rattle.blocks.specs.declared.Rule.{Rule}
use Rattle.blocks.specs.declared.Rule.TheVariants.{Unsigned, Signed}
use Rattle.blocks.proofs.GroupReading.{reads_number, reads_none, decided_high}
use Rattle.blocks.proofs.long.Goals as goal

-- by the unsigned rule
says_u : (s : List ℕ) (at : ℕ) {rule : Rule} {r : Reading ℕ} (v : ℕ) (n : Count) → Bytes s → rule ≡ Unsigned → ReadsU64 s at r → r ≡ Ok (v, n)
    → (at + n.0 ≤ length s) × (standing rule s at ≡ number (unsigned v) n.0 (at + n.0))
says_u s at v n bytes e read is =
    reads_number _ _ bytes _ unsigned u64 (λ (g : List ℕ). ap (λ (rule : Rule). read_by rule g) e) (U.sound 10 1 (omega arith) (omega arith))
    (sym read.is ∙ ap means_read is)

-- by the signed rule
says_s : (s : List ℕ) (at : ℕ) {rule : Rule} {r : Reading ℤ} (v : ℤ) (n : Count) → Bytes s → rule ≡ Signed → ReadsI64 s at r → r ≡ Ok (v, n)
    → (at + n.0 ≤ length s) × (standing rule s at ≡ number (signed v) n.0 (at + n.0))
says_s s at v n bytes e read is =
    reads_number _ _ bytes _ signed i64 (λ (g : List ℕ). ap (λ (rule : Rule). read_by rule g) e) S.sound (sym read.is ∙ ap means_read is)

pub overflow_add-at : goal.overflow_add-at
overflow_add-at c =
    omega (arith, (says_u c.args.block.now c.args.at c.in-Ok.v c.in-Ok.count (λ i. (c.type_inv.block i).fits) c.in-Unsigned.is c.read_u64.ensures c.in-Ok.is).0)

pub unread-requires : goal.unread-requires
unread-requires c = decided_high _ _ u64 (search rules) c.in-Err.fault.0 _ (sym c.read_u64.ensures.is ∙ ap means_read c.in-Err.is)

pub returns-in-Ok : goal.returns-in-Ok
returns-in-Ok c =
    let w = c.in-Ok in
    rw c.at.ensures
    (sym (says_u c.args.block.now c.args.at w.v w.count (λ i. (c.type_inv.block i).fits) c.in-Unsigned.is c.read_u64.ensures w.is).1)

pub returns-in-Err : goal.returns-in-Err
returns-in-Err c =
    reads_none _ _ (λ i. (c.type_inv.block i).fits) _ unsigned u64 (λ (g : List ℕ). ap (λ (rule : Rule). read_by rule g) c.in-Unsigned.is)
    (search rules) (sym c.read_u64.ensures.is ∙ ap means_read c.in-Err.is) c.unread.ensures

pub overflow_add-at-in-Ok-read_i64 : goal.overflow_add-at-in-Ok-read_i64
overflow_add-at-in-Ok-read_i64 c =
    let w = c.in-Ok-read_i64 in
    omega (arith, (says_s c.args.block.now c.args.at w.v w.count (λ i. (c.type_inv.block i).fits) c.in-Signed.is c.read_i64.ensures w.is).0)

pub unread-requires-in-Err-read_i64 : goal.unread-requires-in-Err-read_i64
unread-requires-in-Err-read_i64 c =
    let w = c.in-Err-read_i64 in decided_high _ _ i64 (search rules) w.gap.0 _ (sym c.read_i64.ensures.is ∙ ap means_read w.is)

pub returns-in-Ok-read_i64 : goal.returns-in-Ok-read_i64
returns-in-Ok-read_i64 c =
    let w = c.in-Ok-read_i64 in
    rw (c.at-in-Ok-read_i64.ensures, word_back w.v (search rules))
    (sym (says_s c.args.block.now c.args.at w.v w.count (λ i. (c.type_inv.block i).fits) c.in-Signed.is c.read_i64.ensures w.is).1)

pub returns-in-Err-read_i64 : goal.returns-in-Err-read_i64
returns-in-Err-read_i64 c =
    reads_none _ _ (λ i. (c.type_inv.block i).fits) _ signed i64 (λ (g : List ℕ). ap (λ (rule : Rule). read_by rule g) c.in-Signed.is)
    (search rules) (sym c.read_i64.ensures.is ∙ ap means_read c.in-Err-read_i64.is) c.unread-in-Err-read_i64.ensures
