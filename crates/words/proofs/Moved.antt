-- An answer whose place is counted from further in front.
--
--   moved_none    from no byte further in front, it is the answer itself
--   moved_twice   moved and then moved again, it is moved by both at once
--   moved_gave    what was given in the moved answer was given in the answer
--   number_kept   a refusal keeps its number
--   same_place    refusals of one number are the same where their places are
use Prim.Native.Nat.{ℕ, ◌+◌}
use mathlib.Core.Path.{◌≡◌, refl, ap, sym}
use native.Mathlib.Omega.{arith}
use Rattle.words.specs.Answer.{Answer, gives, refused, Why, by, by_at, number_in, moved_why, moved}
use Rattle.words.proofs.OneMeaning.{apart}

why_none : (k : Why) → moved_why 0 k ≡ k
why_none (by k) = refl
why_none (by_at k p) = ap (by_at k) (omega arith)

why_twice : (m n : ℕ) (k : Why) → moved_why m (moved_why n k) ≡ moved_why (m + n) k
why_twice m n (by k) = refl
why_twice m n (by_at k p) = ap (by_at k) (omega arith)

pub moved_none : {A : Type 0} (a : Answer A) → moved 0 a ≡ a
moved_none (gives v) = refl
moved_none (refused k) = ap refused (why_none k)

pub moved_twice : {A : Type 0} (m n : ℕ) (a : Answer A) → moved m (moved n a) ≡ moved (m + n) a
moved_twice m n (gives v) = refl
moved_twice m n (refused k) = ap refused (why_twice m n k)

pub moved_gave : {A : Type 0} {v : A} (n : ℕ) (a : Answer A) → moved n a ≡ gives v → a ≡ gives v
moved_gave n (gives u) e = e
moved_gave n (refused k) e = apart (sym e)

pub number_kept : (n : ℕ) (k : Why) → number_in (moved_why n k) ≡ number_in k
number_kept n (by k) = refl
number_kept n (by_at k p) = refl

pub same_place : {A : Type 0} {k p q : ℕ} → p ≡ q → ◌≡◌ {A = Answer A} (refused (by_at k p)) (refused (by_at k q))
same_place {k = k} e = ap (λ (i : ℕ). refused (by_at k i)) e
