-- What the functions over eight bytes ask and promise.
--
--   Accepts s         s begins with a number of 64 bits, and has ten bytes or more
--   Found g v n       v is the number of the bytes of g through the first below 128, and n their count
--   Longest g b v n   eight bytes g of 128 or more, and b behind them: v and n, if a number of nine or ten bytes stands there
--   Stores s old r out   the first sixteen bytes of s are stored as the first numbers of old, which leaves out, and r of them, from the front, are
--                        below 128
use Rattle.std.specs.Prelude.{ℕ, ◌+◌, ◌*◌, ◌%◌, ◌^◌, ◌≤◌, ◌<◌, ◌≡◌, List, ◌++◌, length, take, drop}
use Rattle.words.specs.Answer.{gives}
use Rattle.groups.specs.Group.{run, digits}
use Rattle.groups.specs.Width.{reading}
use Rattle.uleb128.specs.Unsigned.{u64}
use Rattle.lists.specs.InnerWord.{smalls}

pub record Accepts (s : List ℕ) : Type 0 where
  pub room : 10 ≤ length s
  pub value : ℕ
  pub count : ℕ
  pub is : reading u64 s ≡ gives (value, count)

pub record Found (g : List ℕ) (v n : ℕ) : Type 0 where
  pub value : v ≡ digits (take (run g + 1) g)
  pub count : n ≡ run g + 1

pub record Longest (g : List ℕ) (b v n : ℕ) : Type 0 where
  pub nine : b < 128 → (v ≡ digits g + 128 ^ 8 * (b % 128)) × (n ≡ 9)
  pub ten : 128 ≤ b → (v ≡ digits g + 128 ^ 8 * (b % 128) + 128 ^ 9) × (n ≡ 10)

pub record Stores (s old : List ℕ) (r : ℕ) (out : List ℕ) : Type 0 where
  pub many : r ≡ smalls (take 16 s)
  pub leaves : out ≡ take 16 s ++ drop 16 old
