-- Document 02, #104: what a slip is, "one byte of kind, then a body whose length the kind fixes". What the body of a kind measures is a list, and all
-- else is said over that list. A setting means its kind and its words, which are the bits of its floats.
--
--   kinds            what the body of each kind measures, from kind 0 on; `measures k`: what that of kind k does
--   spread n w       the n low bytes of w, lowest first
--   body ws          the bytes of a body, four for each word; `body_length ms`: how many they are
--   form v           the slip of the setting v: its kind, and its body
--   good_setting v   v has a kind that there is, and its words are good
--   little l         the number whose bytes are l, lowest first
--   words ms l       the words at the front of l, one for each measure
--   judged k ms ws   the answer to a setting of kind k with these words: itself and the length of its slip, or 11
--   bodied k ms l    the answer to a body of kind k at the front of l: a short one is 1
--   slip l           the answer to a slip at the front of l: no byte is 1, a kind that there isn't 11
--   slip_at s at     the answer to a slip at the place at of s: past the end is 4
use Rattle.std.specs.Prelude.{ℕ, zero, suc, ◌+◌, ◌*◌, ◌/◌, ◌%◌, Bool, List, [], ◌∷◌, ◌++◌, leb, ltb, length, get_or, take, drop}
use Rattle.words.specs.Answer.{pick, both, Answer, gives, refused, by}
use Rattle.slips.specs.Good.{Measure, torque, angle, good}

abbrev pub kinds : List (List Measure)
kinds = [] ∷ (torque ∷ []) ∷ (angle ∷ []) ∷ (torque ∷ torque ∷ []) ∷ []

abbrev pub measures : ℕ → List Measure
measures k = get_or kinds k []

abbrev pub spread : ℕ → ℕ → List ℕ
spread zero w = []
spread (suc n) w = (w % 256) ∷ spread n (w / 256)

abbrev pub body : List ℕ → List ℕ
body [] = []
body (w ∷ ws) = spread 4 w ++ body ws

abbrev pub body_length : List Measure → ℕ
body_length ms = 4 * length ms

abbrev pub form : ℕ × List ℕ → List ℕ
form v = v.0 ∷ body v.1

abbrev pub good_setting : ℕ × List ℕ → Bool
good_setting v = both (ltb v.0 (length kinds)) (good (measures v.0) v.1)

unfoldable pub little : List ℕ → ℕ
little [] = 0
little (b ∷ l) = b + 256 * little l

abbrev pub words : List Measure → List ℕ → List ℕ
words [] l = []
words (m ∷ ms) l = little (take 4 l) ∷ words ms (drop 4 l)

unfoldable pub judged : ℕ → List Measure → List ℕ → Answer ((ℕ × List ℕ) × ℕ)
judged k ms ws = pick (good ms ws) (gives ((k, ws), 1 + body_length ms)) (refused (by 11))

unfoldable pub bodied : ℕ → List Measure → List ℕ → Answer ((ℕ × List ℕ) × ℕ)
bodied k ms l = pick (ltb (length l) (body_length ms)) (refused (by 1)) (judged k ms (words ms l))

unfoldable pub slip : List ℕ → Answer ((ℕ × List ℕ) × ℕ)
slip [] = refused (by 1)
slip (k ∷ l) = pick (leb (length kinds) k) (refused (by 11)) (bodied k (measures k) l)

unfoldable pub slip_at : List ℕ → ℕ → Answer ((ℕ × List ℕ) × ℕ)
slip_at s at = pick (ltb (length s) at) (refused (by 4)) (slip (drop at s))
