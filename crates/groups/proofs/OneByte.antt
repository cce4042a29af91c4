-- What is read where a byte below 128 stands.
--
--   digits_one    such a byte has its own value
--   reading_one   it is read, whatever follows, at any width of two bytes or more: its value and the count 1,
--   read_one      and so it is at a place
use Prim.Native.Nat.{ℕ, suc, ◌<◌}
use mathlib.Core.Path.{◌≡◌, ◌∙◌, ap}
use mathlib.Core.List.{List, [], ◌∷◌}
use native.Mathlib.Nat.{add-zero, mod-eq_of_lt}
use native.Mathlib.Omega.{arith}
use lib.ListN.{length, get_or, drop}
use lib.Seq.{drop-cons}
use Rattle.words.specs.Answer.{gives}
use Rattle.groups.specs.Group.{run, digits}
use Rattle.groups.specs.Width.{Width, reading, read}
use Rattle.groups.proofs.Run.{run_low}
use Rattle.groups.proofs.Rows.{row_number, read_from}

pub digits_one : (b : ℕ) → b < 128 → digits (b ∷ []) ≡ b
unfolding digits
digits_one b low = rw (mod-eq_of_lt low, add-zero)

module _ {A : Type 0} (w : Width A) (most : 1 < w.most) where
  pub reading_one : (b : ℕ) (rest : List ℕ) → b < 128 → reading w (b ∷ rest) ≡ gives (w.value (b ∷ []), 1)
  reading_one b rest low =
      let z : run (b ∷ rest) ≡ 0 = run_low b rest low in
      row_number w (b ∷ rest) (rw z (omega arith)) (rw z (omega arith)) (λ e. absurd (omega arith)) (λ h. absurd (omega arith)) ∙ rw z

  pub read_one : {b : ℕ} (s : List ℕ) (at : ℕ) → b ≡ get_or s at 0 → at < length s → b < 128 → read w s at ≡ gives (w.value (b ∷ []), 1)
  read_one {b} s at e there low =
      read_from w s at (omega arith) {a = gives (w.value (b ∷ []), 1)}
      (ap (reading w) (drop-cons s at 0 there ∙ rw e) ∙ reading_one b (drop (suc at) s) low)
