-- What a writer's promise comes to: the count and the bytes at the place exactly where there is room, else 5 and every byte as it was.
--
--   laid_fits      where the bytes fit, their count is answered, and they stand at the place
--   laid_no_room   where they don't, 5 is, and every byte is as it was
--   count_fits     where a count is answered, it is theirs, and they fit
--   laid_there     and so many bytes from the place on are they
--   lays_exactly   together, both ways; and the buffer keeps its length
use Prim.Native.Nat.{ℕ, ◌+◌, ◌≤◌, ◌<◌}
use mathlib.Core.Path.{◌≡◌, ap, sym, ◌∙◌}
use mathlib.Core.List.{List, ◌++◌, append_assoc}
use native.Mathlib.Omega.{arith}
use borrow.Author.Tests.{le-leb, lt-leb}
use lib.ListN.{length, take, drop, length-append, length-drop}
use lib.Seq.{length-take-le, drop-append_seam, take-append_seam}
use Rattle.std.specs.Prelude.{Ok, Err}
use Rattle.words.specs.Answer.{gives, means_written, Written}
use Rattle.words.specs.Lays.{writing, laid, Lays, LaysExactly}
use Rattle.words.specs.declared.Count.{Count}
use Rattle.words.specs.declared.Refusal.TheVariants.{NoRoom}
use Rattle.words.proofs.Cases.{by_order}
use Rattle.words.proofs.OneMeaning.{same_written, apart}

module _ (bytes s : List ℕ) (at : ℕ) (r : Written) (out : List ℕ) (w : Lays bytes s at r out) where
  pub laid_fits : at + length bytes ≤ length s → (r ≡ Ok (record { 0 = length bytes })) × (out ≡ take at s ++ bytes ++ drop (at + length bytes) s)
  unfolding writing laid
  laid_fits h =
      let t = le-leb (at + length bytes) (length s) h in
      (same_written r (Ok (record { 0 = length bytes })) (w.answer ∙ rw t), w.leaves ∙ rw t)

  pub laid_no_room : length s < at + length bytes → (r ≡ Err NoRoom) × (out ≡ s)
  unfolding writing laid
  laid_no_room h =
      let t = lt-leb (at + length bytes) (length s) h in
      (same_written r (Err NoRoom) (w.answer ∙ rw t), w.leaves ∙ rw t)

  pub count_fits : (n : Count) → r ≡ Ok n → (at + length bytes ≤ length s) × (n.0 ≡ length bytes)
  count_fits n e =
      by_order (length s) (at + length bytes)
      (λ h. apart (ap means_written (sym e ∙ (laid_no_room h).0)))
      (λ h. let q : gives n.0 ≡ gives (length bytes) = ap means_written (sym e ∙ (laid_fits h).0) in (h, cc))

  pub laid_there : (n : Count) → r ≡ Ok n → (n.0 ≡ length bytes) × (take n.0 (drop at out) ≡ bytes)
  laid_there n e =
      let c = count_fits n e in
      let rest = drop (at + length bytes) s in
      let a : length (take at s) ≡ at = length-take-le at s (omega (arith, c.0)) in
      let d : drop at out ≡ bytes ++ rest =
      ap (drop at) (laid_fits c.0).1
      ∙ rw append_assoc (ap (λ (i : ℕ). drop i (take at s ++ (bytes ++ rest))) (sym a) ∙ drop-append_seam (take at s) (bytes ++ rest)) in
      (c.1, rw (c.1, d) (take-append_seam bytes rest))

  length_kept : length out ≡ length s
  length_kept =
      by_order (length s) (at + length bytes) (λ h. ap length (laid_no_room h).1)
      (λ h.
      ap length (laid_fits h).1
      ∙ simp (length-append, length-drop, length-take-le at s (omega arith)) (omega arith))

  pub lays_exactly : LaysExactly bytes s at r out
  lays_exactly = (
    (laid_fits, λ p. (count_fits _ p.0).0),
    (laid_no_room, λ p. by_order (length s) (at + length bytes) (λ h. h) (λ h. apart (ap means_written (sym (laid_fits h).0 ∙ p.0)))),
    length_kept,
  )
