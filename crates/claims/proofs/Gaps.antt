-- Where the byte stands that decided a gap.
--
--   decided_within   it is one of the bytes of the group that was read
--   gap_within       so it is with the gap that a step says
use Prim.Native.Nat.{ℕ, ◌<◌}
use mathlib.Core.Path.{◌≡◌}
use mathlib.Core.List.{List}
use native.Mathlib.Omega.{arith}
use lib.ListN.{length}
use Rattle.std.specs.Prelude.{Ok}
use Rattle.words.specs.Answer.{Answer, gives, refused, because_at, Why}
use Rattle.words.specs.declared.Refusal.{Refusal}
use Rattle.words.proofs.OneMeaning.{apart}
use Rattle.groups.specs.Group.{Group}
use Rattle.groups.specs.Width.{reading}
use Rattle.groups.proofs.Exact.{group_length}
use Rattle.uleb128.specs.Unsigned.{u64}
use Rattle.sleb128.specs.Signed.{i64}
use Rattle.blocks.specs.Block.{Val, unsigned, signed, valued, read_by}
use Rattle.blocks.specs.declared.Rule.{Rule}
use Rattle.blocks.specs.declared.Rule.TheVariants.{Unsigned, Signed}
use Rattle.blocks.specs.declared.Step.TheVariants as S
use Rattle.blocks.proofs.StepRows.{step_rows}
use Rattle.claims.specs.Kinds.{Kind, loop64, signed64, width}
use Rattle.claims.specs.Table.{GapRow}
use Rattle.claims.specs.OfBlocks.{GapWithin}
use Rattle.claims.proofs.Readers.{reading_of}
use Rattle.claims.proofs.ReadGroup.{read_group}

pub decided_within : (k : Kind) (g : List ℕ) (why : Refusal) (j : ℕ) → Group g → reading (width k) g ≡ refused (because_at why j) → j < length g
decided_within k g why j group e = within why (((read_group k g group).gap why j).0 e)
  where
    within : (why : Refusal) → GapRow (width k) g j why → j < length g
    within _ (GapRow.overflows row i) = omega (arith, i, row.there, (reading_of k).sound.some)
    within _ (GapRow.not_shortest row i) = omega (arith, i, group_length group)

valued_refused : {A : Type 0} {k : Why} (f : A → Val) (a : Answer (A × ℕ)) → valued f a ≡ refused k → a ≡ refused k
valued_refused f (gives v) e = apart e
valued_refused {k = k} f (refused l) e = let i : l ≡ k = cc in rw i

by_rule : (rule : Rule) (g : List ℕ) (why : Refusal) (j : ℕ) → Group g → read_by rule g ≡ refused (because_at why j) → j < length g
by_rule Unsigned g why j group e = decided_within loop64 g why j group (valued_refused unsigned (reading u64 g) e)
by_rule Signed g why j group e = decided_within signed64 g why j group (valued_refused signed (reading i64 g) e)

pub gap_within : GapWithin
gap_within rule s p why at n c bytes w =
    let row = (step_rows rule s p (Ok (S.Gap (record { 0 = why; 1 = at }) n c)) bytes).0 w in
    let k = row.3 in
    let inside : row.1 < length k.group = by_rule rule k.group why row.1 k.stands.is_group k.reads in
    (omega (arith, row.2), omega (arith, row.2, k.count))
