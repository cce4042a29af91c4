-- The reader's tests in their order: what holds of the answer to each holds of the reader's.
--
--   start_asked       where the start is not past the end, the answer is that to the bytes from it on,
--   kind_asked        so to a kind and the bytes behind it,
--   body_asked        and to the body of a kind that there is
--   BodyAt s at k l   at the place stands a kind that there is, k, and the bytes l behind it are enough for its body
--   by_tests          the place past the end, no byte, a kind that there isn't, a short body, words that are not good; and else the setting
use Prim.Native.Nat.{ℕ, ◌+◌, ◌≤◌, ◌<◌}
use mathlib.Core.Bool.{Bool, true, false}
use mathlib.Core.List.{List, [], ◌∷◌}
use mathlib.Core.Path.{◌≡◌, refl, ap, ◌∙◌}
use native.Mathlib.Omega.{arith}
use borrow.Author.Tests.{ltb-true, ltb-false, leb-true, leb-false, le-ltb, lt-leb}
use lib.Dec.{leb, ltb}
use lib.ListN.{length, drop, length-drop}
use Rattle.words.specs.Answer.{pick, Answer, gives, refused, by}
use Rattle.slips.specs.Good.{good}
use Rattle.slips.specs.Slip.{measures, body_length, words, judged, bodied, slip, slip_at}

choose : {A : Type 0} (P : A → Type 0) (t : Bool) {a b : A} → (t ≡ true → P a) → (t ≡ false → P b) → P (pick t a b)
choose P true f g = f refl
choose P false f g = g refl

module _ (s : List ℕ) (at : ℕ) (here : at ≤ length s) where
  pub start_asked : slip_at s at ≡ slip (drop at s)
  unfolding slip_at
  start_asked = rw (le-ltb (length s) at here)

  pub kind_asked : (k : ℕ) (l : List ℕ) → drop at s ≡ k ∷ l → slip_at s at ≡ slip (k ∷ l)
  kind_asked k l e = start_asked ∙ ap slip e

  pub body_asked : (k : ℕ) (l : List ℕ) → drop at s ≡ k ∷ l → k ≤ 3 → slip_at s at ≡ bodied k (measures k) l
  unfolding slip
  body_asked k l e h = kind_asked k l e ∙ rw (lt-leb 4 k (omega arith))

pub record BodyAt (s : List ℕ) (at k : ℕ) (l : List ℕ) : Type 0 where
  pub kind_first : drop at s ≡ k ∷ l
  pub known : k ≤ 3
  pub enough : body_length (measures k) ≤ length l

module _ (P : Answer ((ℕ × List ℕ) × ℕ) → Type 0) (s : List ℕ) (at : ℕ)
    (past : length s < at → P (refused (by 4)))
    (no_byte : length s ≡ at → P (refused (by 1)))
    (unknown_kind : (k : ℕ) (l : List ℕ) → drop at s ≡ k ∷ l → 3 < k → P (refused (by 11)))
    (short_body : (k : ℕ) (l : List ℕ) → drop at s ≡ k ∷ l → k ≤ 3 → length l < body_length (measures k) → P (refused (by 1)))
    (bad : (k : ℕ) (l : List ℕ) → BodyAt s at k l → good (measures k) (words (measures k) l) ≡ false → P (refused (by 11)))
    (given : (k : ℕ) (l : List ℕ) → BodyAt s at k l → good (measures k) (words (measures k) l) ≡ true
    → P (gives ((k, words (measures k) l), 1 + body_length (measures k)))) where
  from_body : (k : ℕ) (l : List ℕ) → drop at s ≡ k ∷ l → k ≤ 3 → P (bodied k (measures k) l)
  unfolding bodied judged
  from_body k l e h =
      choose P (ltb (length l) (body_length (measures k))) (λ t. short_body k l e h (ltb-true (length l) (body_length (measures k)) t))
      (λ t. let b : BodyAt s at k l = record { kind_first = e; known = h; enough = ltb-false (length l) (body_length (measures k)) t } in
      choose P (good (measures k) (words (measures k) l)) (given k l b) (bad k l b))

  from_front : (l : List ℕ) → drop at s ≡ l → at ≤ length s → P (slip l)
  unfolding slip
  from_front [] e h = no_byte (omega (arith, ap length e, length-drop at s))
  from_front (k ∷ l) e h =
      choose P (leb 4 k) (λ t. unknown_kind k l e (leb-true 4 k t)) (λ t. from_body k l e (omega (arith, leb-false 4 k t)))

  pub by_tests : P (slip_at s at)
  unfolding slip_at
  by_tests = choose P (ltb (length s) at) (λ t. past (ltb-true (length s) at t)) (λ t. from_front (drop at s) refl (ltb-false (length s) at t))
