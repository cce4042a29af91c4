-- Document 01, "How a number is spelled": bytes, and the groups that they make.
--
--   Bytes s    s is a list of bytes: every element is below 256 (past the end `get_or` gives 0)
--   High s     each byte of s is 128 or more, so that another follows
--   run s      how many bytes of 128 or more stand at the front of s
--   Group g    g is bytes of 128 or more and then one below 128
--   digits g   the number that the seven bits of each byte make, lowest first
use Rattle.std.specs.Prelude.{ℕ, suc, ◌+◌, ◌*◌, ◌%◌, ◌<◌, ◌≤◌, List, [], ◌∷◌, ltb, length, get_or}
use Rattle.words.specs.Answer.{pick}

abbrev pub Bytes : List ℕ → Type 0
Bytes s = (i : ℕ) → get_or s i 0 < 256

abbrev pub High : List ℕ → Type 0
High s = (i : ℕ) → i < length s → 128 ≤ get_or s i 0

unfoldable pub run : List ℕ → ℕ
run [] = 0
run (b ∷ s) = pick (ltb b 128) 0 (suc (run s))

pub data Group : List ℕ → Type 0 where
  one : {b : ℕ} → b < 128 → Group (b ∷ [])
  more : {b : ℕ} {g : List ℕ} → 128 ≤ b → b < 256 → Group g → Group (b ∷ g)

unfoldable pub digits : List ℕ → ℕ
digits [] = 0
digits (b ∷ g) = b % 128 + 128 * digits g
