-- The high bits of the bytes of a word, and what the zeros in front of them count.
--
--   Tells f count           f makes 0 or 128 of a byte, and count is how many bytes that it makes 0 of stand at the front
--   marks_tell, tops_tell   so marks tell the run, and high bits the bytes below 128
--   tells_flags             where m is what f makes of the bytes of w, each of its bytes is 0 or 128,
--   tells_count             and the zeros at its front are those that count counts
--   no_marks, some_mark     a word without a mark has eight bytes of 128 or more, and one with a mark fewer at the front
use Prim.Native.Nat.{ℕ, zero, suc, ◌≤◌, ◌<◌}
use mathlib.Core.Path.{◌≡◌, refl, ap, sym, ◌∙◌}
use mathlib.Core.List.{List, [], ◌∷◌}
use mathlib.Core.Logic.{◌⊎◌, inl, inr, ⊎_elim}
use native.Mathlib.Omega.{arith}
use lib.ListN.{length}
use Rattle.words.proofs.Cases.{by_order}
use Rattle.groups.specs.Group.{run}
use Rattle.groups.proofs.Run.{run_low, run_high, run_within}
use Rattle.lists.specs.InnerWord.{based, little, spread, each, top, mark, zeros, smalls, Below, Flags, none, clear, flag}
use Rattle.lists.proofs.quick.Bytewise.{below_spread, length_spread, length_each, spread_each}
use Rattle.lists.proofs.quick.Smalls.{small_low, small_high}

pub record Tells (f : ℕ → ℕ) (count : List ℕ → ℕ) : Type 0 where
  pub empty : count [] ≡ 0
  pub byte : (b : ℕ) (g : List ℕ) → b < 256 → ((f b ≡ 0) × (count (b ∷ g) ≡ suc (count g))) ⊎ ((f b ≡ 128) × (count (b ∷ g) ≡ 0))

pub marks_tell : Tells mark run
unfolding run
marks_tell =
    record {
      empty = refl;
      byte = λ b g l. by_order b 128 (λ h. inr (omega arith, run_low b g h)) (λ h. inl (omega arith, run_high b g h));
    }

pub tops_tell : Tells top smalls
unfolding smalls
tops_tell =
    record {
      empty = refl;
      byte = λ b g l. by_order b 128 (λ h. inl (omega arith, small_low b g h)) (λ h. inr (omega arith, small_high b g h));
    }

flags_below : {g : List ℕ} → Flags g → Below 256 g
flags_below none = tt
flags_below (clear r) = (omega arith, flags_below r)
flags_below (flag r) = (omega arith, flags_below r)

module _ {f : ℕ → ℕ} {count : List ℕ → ℕ} (t : Tells f count) where
  flags_each : (g : List ℕ) → Below 256 g → Flags (each f g)
  unfolding each
  flags_each [] h = none
  flags_each (b ∷ g) h =
      ⊎_elim (λ p. rw p.0 (clear (flags_each g h.1))) (λ p. rw p.0 (flag (flags_each g h.1))) (t.byte b g h.0)

  zeros_each : (g : List ℕ) → Below 256 g → zeros (each f g) ≡ count g
  unfolding each zeros
  zeros_each [] h = sym t.empty
  zeros_each (b ∷ g) h =
      ⊎_elim (λ p. rw (p.0, p.1, zeros_each g h.1)) (λ p. rw (p.0, p.1)) (t.byte b g h.0)

  module _ (w : ℕ) {m : ℕ} (e : m ≡ little (each f (spread 8 w))) where
    bytes_are : spread 8 m ≡ each f (spread 8 w)
    bytes_are = spread_each f 8 w (flags_below (flags_each (spread 8 w) (below_spread 8 w))) e

    pub tells_flags : Flags (spread 8 m)
    tells_flags = rw bytes_are (flags_each (spread 8 w) (below_spread 8 w))

    pub tells_count : zeros (spread 8 m) ≡ count (spread 8 w)
    tells_count = ap zeros bytes_are ∙ zeros_each (spread 8 w) (below_spread 8 w)

zeros_all : (g : List ℕ) → zeros g ≡ length g → little g ≡ 0
unfolding zeros based
zeros_all [] h = refl
zeros_all (zero ∷ g) h = omega (arith, zeros_all g (omega arith))
zeros_all (suc b ∷ g) h = absurd (omega arith)

module _ (w : ℕ) {m : ℕ} (e : m ≡ little (each mark (spread 8 w))) where
  pub no_marks : m < 1 → run (spread 8 w) ≡ 8
  unfolding zeros spread
  no_marks h = let z : m ≡ 0 = omega arith in sym (tells_count marks_tell w e) ∙ rw z

  pub some_mark : 1 ≤ m → run (spread 8 w) < 8
  some_mark h =
      by_order (run (spread 8 w)) 8 (λ l. l)
      (λ l.
      let n : zeros (each mark (spread 8 w)) ≡ length (each mark (spread 8 w)) =
      zeros_each marks_tell (spread 8 w) (below_spread 8 w)
      ∙ omega (arith, run_within (spread 8 w), length_spread 8 w, length_each mark (spread 8 w)) in
      absurd (omega (arith, zeros_all (each mark (spread 8 w)) n)))
