-- A slip from its kind on: what the reader of its body answers, for every kind at once.
--
--   slip_unknown          a kind that there isn't
--   slip_short            a short body
--   slip_good, slip_bad   a whole one: the setting where its words are good, and else 11; `word_good`, `word_bad`: one of one word,
--                         `range_short`, `range_good`, `range_bad`: one of two; `refusals`: the laws that refuse
--   float_bits            the float of good bits has those,
--   float_fits            and is an f32
--   slip_past, slip_none  past the end, and no byte from the start
--   slip_read             an answer to the bytes from a place on is one to a slip there
use Prim.Native.Nat.{ℕ, ◌+◌, ◌≤◌, ◌<◌}
use mathlib.Core.Bool.{true, false}
use mathlib.Core.List.{List, [], ◌∷◌}
use mathlib.Core.Path.{◌≡◌, refl, ap, sym, ◌∙◌}
use native.Mathlib.Omega.{arith}
use borrow.Author.Tests.{lt-ltb, le-ltb, lt-leb, le-leb}
use lib.ListN.{length, take, drop, length-drop}
use lib.Ieee.{Float, binary32, of_bits, to_bits, fits}
use lib.Ieee.Bits.{of_bits-fits}
use lib.Dec.{T}
use lib.Seq.{take-length}
use Rattle.std.specs.List.{slice_range}
use Rattle.std.specs.Prelude.{Result, Ok, Err}
use Rattle.words.specs.Answer.{refused, by}
use Rattle.words.specs.declared.Count.{Count}
use Rattle.words.specs.declared.Refusal.TheVariants as Why
use Rattle.words.specs.declared.Refusal.{Refusal}
use Rattle.slips.specs.Good.{Measure, torque, good_word, good}
use Rattle.slips.specs.Slip.{measures, body_length, little, words, judged, bodied, slip, slip_at}
use Rattle.slips.specs.Promise.{means_setting, F32, ReadsSetting}
use Rattle.slips.specs.Inner.{AnswersSlip}
use Rattle.slips.specs.declared.Setting.{Setting}
use Rattle.slips.proofs.GoodBits.{good_back}
use Rattle.slips.proofs.GoodRange.{alone}
use Rattle.slips.proofs.ByTests.{start_asked, kind_asked}

module _ {k : ℕ} (l : List ℕ) where
  pub slip_unknown : 3 < k → AnswersSlip (k ∷ l) (Err Why.Slip)
  unfolding slip
  slip_unknown h = record { answer = rw (le-leb 4 k (omega arith)); f32 = tt }

  module _ (known : k ≤ 3) where
    bodied_here : slip (k ∷ l) ≡ bodied k (measures k) l
    unfolding slip
    bodied_here = rw (lt-leb 4 k (omega arith))

    pub slip_short : length l < body_length (measures k) → AnswersSlip (k ∷ l) (Err Why.End)
    unfolding bodied
    slip_short h = record { answer = rw (bodied_here, lt-ltb (length l) (body_length (measures k)) h); f32 = tt }

    module _ (whole : body_length (measures k) ≤ length l) where
      judged_here : slip (k ∷ l) ≡ judged k (measures k) (words (measures k) l)
      unfolding bodied
      judged_here = rw (bodied_here, le-ltb (length l) (body_length (measures k)) whole)

      pub slip_bad : good (measures k) (words (measures k) l) ≡ false → AnswersSlip (k ∷ l) (Err Why.Slip)
      unfolding judged
      slip_bad g = record { answer = rw (judged_here, g); f32 = tt }

      pub slip_good : {v : Setting} (n : Count) → good (measures k) (words (measures k) l) ≡ true → means_setting v ≡ (k, words (measures k) l)
          → F32 v → n.0 ≡ 1 + body_length (measures k) → AnswersSlip (k ∷ l) (Ok (v, n))
      unfolding judged
      slip_good n g e f c = record { answer = rw (judged_here, g, e, c); f32 = f }

module _ (m : Measure) (w : ℕ) {x : Float} (g : good_word m w ≡ true) (e : x ≡ of_bits binary32 w) where
  pub float_bits : to_bits binary32 x ≡ w
  float_bits = rw e (good_back m w g)

  pub float_fits : T (fits binary32 x)
  float_fits = rw e (of_bits-fits binary32 w)

-- a body of one word, and of two
module _ (m : Measure) {k : ℕ} {l : List ℕ} {w : ℕ} (known : k ≤ 3) (one : measures k ≡ m ∷ []) (whole : 4 ≤ length l) (read : w ≡ little (take 4 l)) where
  pub word_bad : good_word m w ≡ false → AnswersSlip (k ∷ l) (Err Why.Slip)
  word_bad g = slip_bad l known (rw one whole) (rw (one, ← read) (sym (alone m w) ∙ g))

  pub word_good : {v : Setting} → good_word m w ≡ true → means_setting v ≡ (k, w ∷ []) → F32 v → AnswersSlip (k ∷ l) (Ok (v, (record { 0 = 5 })))
  word_good g e f = slip_good l known (rw one whole) _ (rw (one, ← read) (sym (alone m w) ∙ g)) (rw (one, ← read) e) f (rw one)

module _ (l : List ℕ) {behind : List ℕ} {low : ℕ} (whole : 4 ≤ length l) (read : low ≡ little (take 4 l)) (rest : behind ≡ drop 4 l) where
  pub range_short : length behind < 4 → AnswersSlip (3 ∷ l) (Err Why.End)
  range_short h = slip_short l (omega arith) (omega (arith, length-drop 4 l, ap length rest))

  module _ {high : ℕ} (more : 4 ≤ length behind) (read' : high ≡ little (take 4 behind)) where
    pub range_bad : good (torque ∷ torque ∷ []) (low ∷ high ∷ []) ≡ false → AnswersSlip (3 ∷ l) (Err Why.Slip)
    range_bad g = slip_bad l (omega arith) (omega (arith, length-drop 4 l, ap length rest)) (rw (← rest, ← read', ← read) g)

    pub range_good : {v : Setting} → good (torque ∷ torque ∷ []) (low ∷ high ∷ []) ≡ true → means_setting v ≡ (3, low ∷ high ∷ []) → F32 v
        → AnswersSlip (3 ∷ l) (Ok (v, (record { 0 = 9 })))
    range_good g e f =
        slip_good l (omega arith) (omega (arith, length-drop 4 l, ap length rest)) _ (rw (← rest, ← read', ← read) g) (rw (← rest, ← read', ← read) e) f
        refl

none_there : (l : List ℕ) → length l ≡ 0 → refused (by 1) ≡ slip l
unfolding slip
none_there [] h = refl
none_there (b ∷ l) h = absurd (omega arith)

module _ (s : List ℕ) (at : ℕ) where
  pub slip_past : length s < at → ReadsSetting s at (Err Why.Place)
  unfolding slip_at
  slip_past h = record { answer = rw (lt-ltb (length s) at h); f32 = tt }

  module _ {front : List ℕ} (here : at ≤ length s) (e : front ≡ slice_range s at (length s)) where
    front_there : drop at s ≡ front
    front_there = sym (e ∙ take_all)
      where
        take_all : slice_range s at (length s) ≡ drop at s
        take_all = rw (← length-drop at s) (take-length (drop at s))

    pub slip_none : length front ≡ 0 → ReadsSetting s at (Err Why.End)
    slip_none h = record { answer = none_there front h ∙ sym (start_asked s at here ∙ ap slip front_there); f32 = tt }

    pub slip_read : {k : ℕ} {l : List ℕ} {r : Result (Setting × Count) Refusal} → front ≡ k ∷ l → AnswersSlip (k ∷ l) r → ReadsSetting s at r
    slip_read {k} {l} f a = record { answer = a.answer ∙ sym (kind_asked s at here k l (front_there ∙ f)); f32 = a.f32 }

pub ruleset refusals = (slip_unknown, slip_short, word_bad, range_short, range_bad)
