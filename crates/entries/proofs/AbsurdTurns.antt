-- Turns that no entry may have.
--
--   above_absurd, below_absurd, not_absurd   what the two tests of a turn tell
--   absurd_or_not                            a turn is absurd or it isn't
use mathlib.Core.Bool.{true, false}
use mathlib.Core.Path.{◌≡◌, sym, subst}
use mathlib.Core.Logic.{◌⊎◌, inl, inr, ⊎_elim}
use lib.Dec.{T}
use lib.IntN.{ℤ, pos, neg_ℤ}
use lib.Signed.{lt_z, ◌<ℤ◌, lt_z_yes}
use Rattle.words.proofs.Cases.{by_test}
use Rattle.entries.specs.Saying.{Absurd}

module _ (t : ℤ) where
  pub above_absurd : lt_z (pos 400) t ≡ true → Absurd t
  above_absurd e = inl (lt_z_yes (subst T (sym e) tt))

  pub below_absurd : lt_z t (neg_ℤ (pos 400)) ≡ true → Absurd t
  below_absurd e = inr (lt_z_yes (subst T (sym e) tt))

  pub not_absurd : lt_z (pos 400) t ≡ false → lt_z t (neg_ℤ (pos 400)) ≡ false → Absurd t → ⊥
  not_absurd a b = ⊎_elim (λ (h : pos 400 <ℤ t). subst T a h.lt) (λ (h : t <ℤ neg_ℤ (pos 400)). subst T b h.lt)

  pub absurd_or_not : Absurd t ⊎ (Absurd t → ⊥)
  absurd_or_not =
      by_test (lt_z (pos 400) t) (λ e. inl (above_absurd e))
      (λ e. by_test (lt_z t (neg_ℤ (pos 400))) (λ f. inl (below_absurd f)) (λ f. inr (not_absurd e f)))
