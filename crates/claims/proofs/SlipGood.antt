-- The tests that the functions make say what the chapter says: words are good exactly where they are not bad.
--
--   never_bad   good words are not bad,
--   bad_words   and words of 32 bits, one for each measure, that are not good are bad
--   good_says   the test of a setting holds exactly where it is good
use Prim.Native.Nat.{ℕ, suc}
use mathlib.Core.Bool.{true, false, not}
use mathlib.Core.List.{List, [], ◌∷◌}
use mathlib.Core.Logic.{◌↔◌}
use mathlib.Core.Path.{◌≡◌, refl}
use native.Mathlib.Omega.{arith}
use borrow.Author.Tests.{ltb-true, lt-ltb, not-true}
use lib.Dec.{ltb}
use lib.Ieee.{binary32, of_bits, lt}
use Rattle.words.proofs.Cases.{by_test, both_true, clash}
use Rattle.slips.specs.Good.{Measure, good_word, good_words, is_in_order, good}
use Rattle.slips.specs.Slip.{measures, good_setting}
use Rattle.slips.proofs.GoodWords.{good_both, first_good, others_good, each_good, each_many, each_bits}
use Rattle.claims.specs.OfSlips.{Bad, bad_float, lowest_above, later, Words, Good}
use Rattle.claims.proofs.SlipFloats.{good_not_bad, bad_found}

pub never_bad : {ms : List Measure} {ws : List ℕ} → good ms ws ≡ true → Bad ms ws → ⊥
unfolding is_in_order
never_bad g (bad_float {m} {ms} {w} {ws} b) = good_not_bad m w (first_good m ms w ws g) b
never_bad g (lowest_above {m} {m'} {ms} {low} {high} {ws} h) =
    let o = (good_both (m ∷ m' ∷ ms) (low ∷ high ∷ ws) g).0 in
    let t = (both_true (is_in_order (high ∷ ws)) (not (lt (of_bits binary32 high) (of_bits binary32 low))) o).1 in
    clash (not-true (lt (of_bits binary32 high) (of_bits binary32 low)) t) h
never_bad g (later {m} {ms} {w} {ws} b) = never_bad (others_good m ms w ws g) b

-- where the first word is good and so are the others, they are bad together only because the first is above the next
above_next : (m : Measure) (ms : List Measure) (w : ℕ) (ws : List ℕ) → Words (m ∷ ms) (w ∷ ws) → good ms ws ≡ true → good_word m w ≡ true
    → good (m ∷ ms) (w ∷ ws) ≡ false → Bad (m ∷ ms) (w ∷ ws)
unfolding good good_words is_in_order
above_next m ms w [] p t g e = clash e (rw (good_both ms [] t).1 g)
above_next m [] w (v ∷ ws) p t g e = absurd (omega (arith, p.as_many))
above_next m (m' ∷ ms) w (v ∷ ws) p t g e =
    let b = good_both (m' ∷ ms) (v ∷ ws) t in
    by_test (lt (of_bits binary32 v) (of_bits binary32 w)) lowest_above (λ l. clash e (rw (b.0, l, b.1) g))

pub bad_words : (ms : List Measure) (ws : List ℕ) → Words ms ws → good ms ws ≡ false → Bad ms ws
unfolding good good_words is_in_order
bad_words [] [] p e = clash e refl
bad_words [] (w ∷ ws) p e = absurd (omega (arith, p.as_many))
bad_words (m ∷ ms) [] p e = absurd (omega (arith, p.as_many))
bad_words (m ∷ ms) (w ∷ ws) p e =
    by_test (good ms ws)
    (λ t. by_test (good_word m w) (λ g. above_next m ms w ws p t g e) (λ g. bad_float (bad_found m w (p.bits 0) g)))
    (λ t. later (bad_words ms ws (record { as_many = omega (arith, p.as_many); bits = λ i. p.bits (suc i) }) t))

pub good_says : (v : ℕ × List ℕ) → (good_setting v ≡ true) ↔ Good v
good_says (k, ws) = (
  λ e. let t = both_true (ltb k 4) (good (measures k) ws) e in
      let g = each_good (measures k) ws t.1 in
      record {
        known = omega (arith, ltb-true k 4 t.0);
        words = record { as_many = each_many g; bits = each_bits g };
        not_bad = never_bad t.1;
      },
  λ g. by_test (good (measures k) ws) (λ e. rw (lt-ltb k 4 (omega (arith, g.known))) e)
      (λ e. absurd (g.not_bad (bad_words (measures k) ws g.words e))),
)
