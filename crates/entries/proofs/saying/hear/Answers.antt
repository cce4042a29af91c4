-- `entries::hear` keeps what it promises inside the crate: field by field, `Heard` holds, and the turn is absurd or it isn't.
use Rattle.std.specs.Int.Signed.{mag}
use Rattle.std.proofs.Common.{ℕ, ◌≡◌, ◌+◌, ◌<◌, ◌^◌, arith, subst, List, [], ◌∷◌, ℤ}
use Rattle.words.specs.Answer.{gives}
use Rattle.groups.specs.Group.{Bytes}
use Rattle.groups.specs.Width.{read}
use Rattle.groups.proofs.SignedWords.{word_back}
use Rattle.uleb128.specs.Unsigned.{u64}
use Rattle.uleb128.proofs.Widths as unsigned-widths
use Rattle.sleb128.specs.Signed.{i64}
use Rattle.sleb128.proofs.Widths as signed-widths
use Rattle.blocks.specs.Block.{unsigned, signed, read_by}
use Rattle.blocks.specs.declared.Rule.TheVariants.{Unsigned, Signed}
use Rattle.entries.specs.Inner.{Tells}
use Rattle.entries.specs.Saying.{Absurd, fields, numbers_of}
use Rattle.entries.proofs.NextMarks.{told_yes, told_no}
use Rattle.entries.proofs.SaysGroups.{absurd_said}
use Rattle.entries.proofs.Heard.{Heard, none_heard, number_heard, fault_heard, all_heard, read_some, read_none}
use Rattle.entries.proofs.saying.hear.Goals as goal

-- what is heard after each reading
module _ {s : List ℕ} (bytes : Bytes s) {segment n : ℕ} (a : read u64 s 0 ≡ gives (segment, n)) where
  first : Heard fields s n (read_by Unsigned ∷ read_by Signed ∷ []) (unsigned segment ∷ [])
  first = number_heard bytes u64 (unsigned-widths.sound 10 1 (omega arith) (omega arith)) unsigned (none_heard fields s) a (omega arith)

  module _ {sentence n' : ℕ} (a' : read u64 s n ≡ gives (sentence, n')) where
    second : Heard fields s (n + n') (read_by Signed ∷ []) (unsigned segment ∷ unsigned sentence ∷ [])
    second = number_heard bytes u64 (unsigned-widths.sound 10 1 (omega arith) (omega arith)) unsigned first a' (omega arith)

    third : {turn : ℤ} {n'' : ℕ} → read i64 s (n + n') ≡ gives (turn, n'')
        → Heard fields s (n + n' + n'') [] (unsigned segment ∷ unsigned sentence ∷ signed turn ∷ [])
    third a'' = number_heard bytes i64 signed-widths.sound signed second a'' (omega arith)

pub returns-in_err-segment : goal.returns-in_err-segment
returns-in_err-segment c = rw c.from_residual.ensures (λ x rest g.
    let none = read_none c.read_u64.result c.read_u64.ensures.is c.ok.ensures.value c.in_err-segment.was in
    fault_heard (λ i. (c.type_inv.bytes i).fits) u64 (unsigned-widths.sound 10 1 (omega arith) (omega arith)) unsigned (none_heard fields _)
    none.1 (numbers_of x) rest g.says)

pub returns-in_err-sentence : goal.returns-in_err-sentence
returns-in_err-sentence c = rw c.from_residual-in_err-sentence.ensures (λ x rest g.
    let a = read_some c.read_u64.result c.read_u64.ensures.is c.ok.ensures.value c.in_ok-segment.was in
    let none = read_none c.read_u64-2.result c.read_u64-2.ensures.is c.ok-2.ensures.value c.in_err-sentence.was in
    fault_heard (λ i. (c.type_inv.bytes i).fits) u64 (unsigned-widths.sound 10 1 (omega arith) (omega arith)) unsigned (first (λ i. (c.type_inv.bytes i).fits) a)
    none.1 (numbers_of x) rest g.says)

pub overflow_add-two : goal.overflow_add-two
overflow_add-two c =
    let a = read_some c.read_u64.result c.read_u64.ensures.is c.ok.ensures.value c.in_ok-segment.was in
    let b = read_some c.read_u64-2.result c.read_u64-2.ensures.is c.ok-2.ensures.value c.in_ok-sentence.was in
    let h = second (λ i. (c.type_inv.bytes i).fits) a b in
    omega (arith, h.within)

pub returns-in_err-turn : goal.returns-in_err-turn
returns-in_err-turn c = rw c.from_residual-in_err-turn.ensures (λ x rest g.
    let a = read_some c.read_u64.result c.read_u64.ensures.is c.ok.ensures.value c.in_ok-segment.was in
    let b = read_some c.read_u64-2.result c.read_u64-2.ensures.is c.ok-2.ensures.value c.in_ok-sentence.was in
    let none = read_none c.read_i64.result c.read_i64.ensures.is c.ok-3.ensures.value c.in_err-turn.was in
    fault_heard (λ i. (c.type_inv.bytes i).fits) i64 signed-widths.sound signed (second (λ i. (c.type_inv.bytes i).fits) a b)
    none.1 (numbers_of x) rest g.says)

pub returns-then-is_absurd : goal.returns-then-is_absurd
returns-then-is_absurd c =
    let a = read_some c.read_u64.result c.read_u64.ensures.is c.ok.ensures.value c.in_ok-segment.was in
    let b = read_some c.read_u64-2.result c.read_u64-2.ensures.is c.ok-2.ensures.value c.in_ok-sentence.was in
    let d = read_some c.read_i64.result c.read_i64.ensures.is c.ok-3.ensures.value c.in_ok-turn.was in
    let h : mag c.in_ok-turn.turn < 2 ^ 63 = omega arith in
    absurd_said {x = record { segment = c.in_ok-segment.segment; sentence = c.in_ok-sentence.sentence; turn = c.in_ok-turn.turn }}
    (all_heard (third (λ i. (c.type_inv.bytes i).fits) a b d)) (told_yes (subst (λ (v : ℤ). Tells (Absurd v) c.is_absurd.result) (word_back _ h) c.is_absurd.ensures) c.if-is_absurd.true)

pub overflow_add-result : goal.overflow_add-result
overflow_add-result c =
    let a = read_some c.read_u64.result c.read_u64.ensures.is c.ok.ensures.value c.in_ok-segment.was in
    let b = read_some c.read_u64-2.result c.read_u64-2.ensures.is c.ok-2.ensures.value c.in_ok-sentence.was in
    let d = read_some c.read_i64.result c.read_i64.ensures.is c.ok-3.ensures.value c.in_ok-turn.was in
    let h = third (λ i. (c.type_inv.bytes i).fits) a b d in
    omega (arith, h.within)

pub returns : goal.returns
returns c =
    let a = read_some c.read_u64.result c.read_u64.ensures.is c.ok.ensures.value c.in_ok-segment.was in
    let b = read_some c.read_u64-2.result c.read_u64-2.ensures.is c.ok-2.ensures.value c.in_ok-sentence.was in
    let d = read_some c.read_i64.result c.read_i64.ensures.is c.ok-3.ensures.value c.in_ok-turn.was in
    let h : mag c.in_ok-turn.turn < 2 ^ 63 = omega arith in
    let t = third (λ i. (c.type_inv.bytes i).fits) a b d in
    (t.within, rw (word_back _ h) (record { says = all_heard t; sensible = told_no (rw (word_back _ h) at c.is_absurd.ensures) c.if-is_absurd.false }))
