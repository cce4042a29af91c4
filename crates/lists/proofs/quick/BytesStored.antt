-- Eight bytes loaded as one number, and sixteen stored as numbers.
--
--   loaded          what the library makes of eight bytes, low byte first, is their number
--   next_stored     a byte stored behind others is one more,
--   all_stored      and when sixteen are, the numbers begin with them
--   few_of_eight    at most eight of eight bytes are below 128
--   some_of_eight   where not all of the first eight are below 128, they tell how many of the sixteen are,
--   all_of_eight    and where they are, the second eight tell it
use lib.ListN.{drop_of_length-le}
use lib.Seq.{take-add, length-take-le}
use Rattle.std.specs.Int.{from_le_bytes}
use Rattle.std.proofs.Common.{◌≡◌, ℕ, zero, suc, ◌+◌, ◌*◌, ◌≤◌, ◌<◌, List, [], ◌∷◌, ◌++◌, length, get_or, take, drop, set, refl, sym, ◌∙◌, w64, zero-add, arith}
use Rattle.std.proofs.lemmas.List.{take_more, take_all}
use Rattle.std.proofs.lemmas.List.Edits.{sets, sets-eq}
use Rattle.words.proofs.Lays.{sets_append}
use Rattle.lists.specs.InnerWord.{based, little, smalls}
use Rattle.lists.specs.InnerWide.{Stores}
use Rattle.lists.proofs.quick.Smalls.{smalls_within, smalls_first, smalls_both}

first_byte : (k : ℕ) (g : List ℕ) → little (drop k g) ≡ get_or g k 0 + 256 * little (drop (suc k) g)
unfolding based
first_byte zero [] = refl
first_byte (suc k) [] = refl
first_byte zero (b ∷ g) = refl
first_byte (suc k) (b ∷ g) = first_byte k g

none_left : (g : List ℕ) → length g ≡ 8 → little (drop 8 g) ≡ 0
unfolding based
none_left g h = rw (drop_of_length-le g {i = 8} (omega arith))

pub loaded : (g : List ℕ) → length g ≡ 8 → from_le_bytes w64 g ≡ little g
loaded g h =
    let a = first_byte 0 g in
    let b = first_byte 1 g in
    let c = first_byte 2 g in
    let d = first_byte 3 g in
    let e = first_byte 4 g in
    let f = first_byte 5 g in
    let i = first_byte 6 g in
    let j = first_byte 7 g in
    let z = none_left g h in
    omega arith

-- a loop that stores one byte after another
pub next_stored : (old bytes : List ℕ) {nums : List ℕ} {k v : ℕ} → nums ≡ sets old 0 (take k bytes) → k < length bytes → v ≡ get_or bytes k 0
    → set nums k v ≡ sets old 0 (take (k + 1) bytes)
next_stored old bytes {k = k} e h i =
    let l : 0 + length (take k bytes) ≡ k = zero-add (length (take k bytes)) ∙ length-take-le k bytes (omega arith) in
    rw (e, i, take_more bytes k 0 h, sets_append (take k bytes) (get_or bytes k 0 ∷ []) old 0, l) refl

pub all_stored : (s old : List ℕ) {nums bytes : List ℕ} {k : ℕ} → nums ≡ sets old 0 (take k bytes) → k ≡ 16 → bytes ≡ take 16 s → 16 ≤ length s
    → 16 ≤ length old → nums ≡ take 16 s ++ drop 16 old
all_stored s old e i j h l =
    let n : length (take 16 s) ≡ 16 = length-take-le 16 s h in
    rw (e, i, j, take_all 16 (take 16 s) (omega arith), sets-eq (take 16 s) old 0 (omega arith), n) refl

pub few_of_eight : (s : List ℕ) → 8 ≤ length s → smalls (take 8 s) ≤ 8
few_of_eight s h = omega (arith, smalls_within (take 8 s), length-take-le 8 s h)

module _ (s : List ℕ) (room : 16 ≤ length s) where
  two_eights : take 16 s ≡ take 8 s ++ take 8 (drop 8 s)
  two_eights = take-add 8 8 s

  first_length : length (take 8 s) ≡ 8
  first_length = length-take-le 8 s (omega arith)

  module _ {old out : List ℕ} {c d : ℕ} (e : c ≡ smalls (take 8 s)) (f : d ≡ smalls (take 8 (drop 8 s))) (g : out ≡ take 16 s ++ drop 16 old) where
    pub some_of_eight : c < 8 → Stores s old c out
    some_of_eight h =
        record { many = rw two_eights (e ∙ sym (smalls_first (take 8 s) (take 8 (drop 8 s)) (omega (arith, first_length)))); leaves = g }

    pub all_of_eight : 8 ≤ c → Stores s old (8 + d) out
    all_of_eight h =
        let all : smalls (take 8 s) ≡ length (take 8 s) = omega (arith, few_of_eight s (omega arith), first_length) in
        record { many = rw two_eights (omega (arith, smalls_both (take 8 s) (take 8 (drop 8 s)) all, first_length)); leaves = g }
