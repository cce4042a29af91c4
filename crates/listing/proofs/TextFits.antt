-- What a listing's text is, and that it fits into a buffer of `text_room` bytes.
--
--   text_above, text_within   the text of an input above the limit, and of one within it
--   text_fits                 every listing has at most `text_room` bytes: each row of k bytes of the block has at most 28 * k
use Prim.Native.Nat.{ℕ, zero, suc, ◌+◌, ◌*◌, ◌^◌, ◌≤◌, ◌<◌}
use mathlib.Core.Path.{◌≡◌, refl}
use mathlib.Core.List.{List, [], ◌∷◌, ◌++◌}
use native.Mathlib.Nat.{pow-succ'}
use native.Mathlib.Omega.{arith}
use borrow.Author.Tests.{lt-ltb, le-ltb}
use lib.Dec.{eqb}
use lib.ListN.{length, take, length-append, length-take}
use Rattle.words.specs.Answer.{Answer, gives, refused, Why, number_in}
use Rattle.words.proofs.Cases.{by_order, by_test}
use Rattle.texts.specs.Texts.{ascii, decimal}
use Rattle.texts.proofs.Decimals.{decimal_within_lem, three_digits_each}
use Rattle.groups.specs.Group.{run, digits}
use Rattle.groups.proofs.Run.{digits_below}
use Rattle.groups.proofs.Stands.{reading_value}
use Rattle.groups.specs.Width.{reading}
use Rattle.uleb128.specs.Unsigned.{u64}
use Rattle.blocks.specs.Block.{block_limit}
use Rattle.blocks.specs.GroupsAndTail.{cut}
use Rattle.blocks.proofs.Cut.{total, all_bytes, Some, some_each}
use Rattle.listing.specs.Listing.{row, fault, row_of, group_row, rows, text, text_room}

-- at a place within the limit a row's other parts have at most 25 bytes
row_short : (p k v : ℕ) (what : List ℕ) → p ≤ block_limit → 0 < k → length what ≤ 12 → length (decimal v) ≤ 3 * k → length (row p what v) ≤ 28 * k
unfolding row
row_short p k v what h i w d = simp length-append (omega (arith, decimal_within_lem 9 p (omega arith)))

fault_short : (why : Why) → length (fault why) ≤ 12
fault_short why = by_test (eqb (number_in why) 3) (λ e. rw e (omega arith)) (λ e. rw e (omega arith))

-- the value of k bytes, and k itself, have at most 3 * k digits
value_short : (k v : ℕ) → 0 < k → v < 128 ^ k → length (decimal v) ≤ 3 * k
value_short zero v i h = absurd (omega arith)
value_short (suc k) v i h = three_digits_each k v h

below_power : (k : ℕ) → k < 128 ^ k
below_power zero = omega arith
below_power (suc k) = omega (arith, below_power k, pow-succ' 128 k)

count_short : (k : ℕ) → 0 < k → length (decimal k) ≤ 3 * k
count_short k i = value_short k k i (below_power k)

group_row_short : (p : ℕ) (g : List ℕ) → p ≤ block_limit → 0 < length g → length (group_row p g) ≤ 28 * length g
group_row_short p g h some = go (reading u64 g) refl
  where
    go : (a : Answer (ℕ × ℕ)) → reading u64 g ≡ a → length (row_of p a (length g)) ≤ 28 * length g
    go (gives v) e =
        let front = take (run g + 1) g in
        let n : length front ≤ length g = omega (arith, length-take (run g + 1) g) in
        let i : 0 < length front = omega (arith, length-take (run g + 1) g) in
        let d : length (decimal v.0) ≤ 3 * length front = rw (reading_value u64 g e) (value_short (length front) (digits front) i (digits_below front)) in
        row_short p (length g) v.0 (ascii "number") h some (omega arith) (omega (arith, n, d))
    go (refused k) e = row_short p (length g) (length g) (fault k) h some (fault_short k) (count_short (length g) some)

rows_short : (p : ℕ) (gs : List (List ℕ)) (t : List ℕ) → Some gs → p + (total gs + length t) ≤ block_limit → length (rows p gs t) ≤ 28 * (total gs + length t)
unfolding rows
rows_short p [] [] some h = omega arith
rows_short p [] (b ∷ t) some h =
    let k = suc (length t) in
    omega (arith, row_short p k k (ascii "tail") (omega arith) (omega arith) (omega arith) (count_short k (omega arith)))
rows_short p (g ∷ gs) t some h =
    rw (length-append (group_row p g) (rows (p + length g) gs t))
    (omega (arith, group_row_short p g (omega arith) some.0, rows_short (p + length g) gs t some.1 (omega arith)))

pub text_above : (s : List ℕ) → block_limit < length s → text s ≡ ascii "refused 7\n"
unfolding text
text_above s long = rw (lt-ltb block_limit (length s) long)

pub text_within : (s : List ℕ) → length s ≤ block_limit → text s ≡ ascii "place what value\n" ++ rows 0 (cut s).groups (cut s).tail
unfolding text
text_within s short = rw (le-ltb block_limit (length s) short)

pub text_fits : (s : List ℕ) → length (text s) ≤ text_room
text_fits s =
    by_order block_limit (length s) (λ long. rw (text_above s long) (omega arith))
    (λ short.
    rw (text_within s short)
    (rw (length-append (ascii "place what value\n") (rows 0 (cut s).groups (cut s).tail))
    (omega (arith, rows_short 0 (cut s).groups (cut s).tail (some_each s) (omega (arith, all_bytes s)), all_bytes s))))
