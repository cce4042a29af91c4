-- The run of bytes of 128 or more, counted; and what the test for a start comes to.
--
--   run_taken                      the bytes taken from a place on while they are 128 or more are those of the run there
--   front_is_start, low_is_start   the test for a start: true at place 0, behind it whether the high bit of the byte before isn't set
--   run_inside                     from a place of the block, a run ends within the block
use Prim.Native.Nat.{ℕ, ◌+◌, ◌-◌, ◌≤◌, ◌<◌}
use mathlib.Core.Path.{◌≡◌, refl, ◌∙◌}
use mathlib.Core.List.{List, [], ◌∷◌}
use mathlib.Core.Bool.{Bool, not}
use native.Mathlib.Omega.{arith}
use borrow.Author.Tests.{lt-ltb, le-ltb, le-leb, lt-leb, eq-eqb, ne_eqb}
use lib.Dec.{ltb}
use lib.ListN.{length, get_or, drop, length-drop}
use lib.Seq.{take-length}
use Rattle.std.specs.List.{prefix_len, take_while, slice_range}
use Rattle.std.proofs.lemmas.List.Folds.{length-prefix_len}
use Rattle.words.proofs.Cases.{by_order}
use Rattle.bits.specs.Macros.{is_high_8_bit_set_lem}
use Rattle.groups.specs.Group.{run}
use Rattle.groups.proofs.Run.{run_low, run_high, run_within}
use Rattle.blocks.specs.Block.{is_start_lem}

run_prefix : (s : List ℕ) → prefix_len is_high_8_bit_set_lem s ≡ run s
unfolding run
run_prefix [] = refl
run_prefix (b ∷ s) =
    by_order b 128 (λ l. rw (lt-leb 128 b l, run_low b s l)) (λ h. rw (le-leb 128 b h, run_high b s h, run_prefix s) (omega arith))

pub run_taken : (s : List ℕ) (at : ℕ) → length (take_while is_high_8_bit_set_lem (slice_range s at (length s))) ≡ run (drop at s)
run_taken s at =
    let rest : slice_range s at (length s) ≡ drop at s = rw (← length-drop at s) (take-length (drop at s)) in
    rw rest (length-prefix_len is_high_8_bit_set_lem (drop at s) ∙ run_prefix (drop at s))

module _ (s : List ℕ) (p : ℕ) where
  pub front_is_start : p < 1 → ltb p 1 ≡ is_start_lem s p
  unfolding is_start_lem
  front_is_start h = rw (lt-ltb p 1 h, eq-eqb p 0 (omega arith))

  pub low_is_start : {r : Bool} → 1 ≤ p → r ≡ is_high_8_bit_set_lem (get_or s (p - 1) 0) → not r ≡ is_start_lem s p
  unfolding is_start_lem
  low_is_start h e = rw (ne_eqb p 0 (λ q. omega arith), e) (by_order (get_or s (p - 1) 0) 128
      (λ l. rw (lt-leb 128 (get_or s (p - 1) 0) l, lt-ltb (get_or s (p - 1) 0) 128 l))
      (λ l. rw (le-leb 128 (get_or s (p - 1) 0) l, le-ltb (get_or s (p - 1) 0) 128 l)))

pub run_inside : (s : List ℕ) (p : ℕ) → p ≤ length s → p + run (drop p s) ≤ length s
run_inside s p h = omega (arith, run_within (drop p s), length-drop p s)
