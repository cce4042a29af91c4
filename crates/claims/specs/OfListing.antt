-- What is claimed of the listing, and of the program that writes it.
--
--   Digits                   a number in decimal
--   rows_from s p, Rows      the rows of the block s from the place p on: that of the group or of the tail that stands there, and those behind it
--   Fits                     every listing fits into a buffer of `text_room` bytes
--   AboveLimit               an input above the limit has the text `refused 7`, one line without header
--   FrontEnough              the first bytes of an input, more than the limit, have its text
--   Document                 the text of document 01's 17 bytes, of the mended ones, and of no bytes
--   Taking n ks i            where n bytes of the input are there, reads that answer ks, one after another, lead to the input i
--   answers ps k, total ps   the answers of reads that give pieces, each of a byte and p more, and then k; how many bytes the pieces have
--   Taken                    an input is taken whole, in whatever pieces it comes, or as far as the limit and a byte more; a read that fails is no end
--   Silent                   nothing is said exactly where the whole input could be read and is within the limit, and all its text could be written
--   ListingMet, ListingOne   an answer meets each promise, and no second
--   OfListing                all of it
use Rattle.std.specs.Prelude.{ℕ, suc, ◌+◌, ◌/◌, ◌%◌, ◌≤◌, ◌<◌, Bool, true, ◌≡◌, List, [], ◌∷◌, ◌++◌, ◌↔◌, ℤ, pos, negsuc, length, take, drop, replicate}
use Rattle.texts.specs.Texts.{ascii, decimal, LaysText, LaysDecimal, Lays, LaysNumber}
use Rattle.texts.specs.declared.Text.{Text}
use Rattle.blocks.specs.Block.{block_limit}
use Rattle.blocks.specs.GroupsAndTail.{GroupAt, TailAt, cut}
use Rattle.listing.specs.Listing.{row, group_row, rows, text, text_room}
use Rattle.listing.specs.Program.{Known, bytes, failed, more, ended, input_room, following, note_of}
use Rattle.listing.specs.Promise.{LaysListing}

abbrev pub Digits : Type 0
Digits = (v : ℕ) → (v < 10 → decimal v ≡ (48 + v) ∷ []) × (10 ≤ v → decimal v ≡ decimal (v / 10) ++ (48 + v % 10) ∷ [])

abbrev pub rows_from : List ℕ → ℕ → List ℕ
rows_from s p = rows p (cut (drop p s)).groups (cut (drop p s)).tail

pub record Rows : Type 0 where
  pub header : (s : List ℕ) → length s ≤ block_limit → text s ≡ ascii "place what value\n" ++ rows_from s 0
  pub group : (s : List ℕ) (p : ℕ) (g : List ℕ) → GroupAt s p g → rows_from s p ≡ group_row p g ++ rows_from s (p + length g)
  pub tail : (s : List ℕ) (p : ℕ) → TailAt s p → rows_from s p ≡ row p (ascii "tail") (length (drop p s))
  pub end : (s : List ℕ) → rows_from s (length s) ≡ []

abbrev pub Fits : Type 0
Fits = (s : List ℕ) → length (text s) ≤ text_room

abbrev pub AboveLimit : Type 0
AboveLimit = (s : List ℕ) → block_limit < length s → text s ≡ ascii "refused 7\n"

abbrev pub FrontEnough : Type 0
FrontEnough = (s : List ℕ) (n : ℕ) → block_limit < n → text (take n s) ≡ text s

pub record Document : Type 0 where
  pub document : text (0x00 ∷ 0x80 ∷ 0x01 ∷ 0x80 ∷ 0x00 ∷ replicate 9 0xff ++ 0x02 ∷ 0x05 ∷ 0x83 ∷ [])
      ≡ ascii "place what value\n0 number 0\n1 number 128\n3 not-shortest 2\n5 overflow 10\n15 number 5\n16 tail 1\n"
  pub mended : text (0x00 ∷ 0x80 ∷ 0x01 ∷ 0x07 ∷ replicate 9 0xff ++ 0x02 ∷ 0x05 ∷ 0x83 ∷ [])
      ≡ ascii "place what value\n0 number 0\n1 number 128\n3 number 7\n4 overflow 10\n14 number 5\n15 tail 1\n"
  pub empty : text [] ≡ ascii "place what value\n"

pub data Taking : ℕ → List ℤ → Known → Type 0 where
  last : (n : ℕ) (k : ℤ) (i : Known) → following n k ≡ ended i → Taking n (k ∷ []) i
  another : (n : ℕ) (k : ℤ) (m : ℕ) (ks : List ℤ) (i : Known) → following n k ≡ more m → Taking m ks i → Taking n (k ∷ ks) i

abbrev pub answers : List ℕ → ℤ → List ℤ
answers [] k = k ∷ []
answers (p ∷ ps) k = pos (suc p) ∷ answers ps k

abbrev pub total : List ℕ → ℕ
total [] = 0
total (p ∷ ps) = suc p + total ps

pub record Taken : Type 0 where
  pub whole : (ps : List ℕ) → total ps < input_room → Taking 0 (answers ps (pos 0)) (bytes (total ps))
  pub above : (ps : List ℕ) (p : ℕ) → total ps < input_room → input_room ≤ total ps + suc p
      → Taking 0 (answers ps (pos (suc p))) (bytes (total ps + suc p))
  pub failed : (ps : List ℕ) (j : ℕ) → total ps < input_room → Taking 0 (answers ps (negsuc j)) failed

abbrev pub Silent : Type 0
Silent = (i : Known) (w : Bool) → (note_of i w ≡ []) ↔ ((n : ℕ) × (i ≡ bytes n) × (n ≤ block_limit) × (w ≡ true))

-- Each promise is met by some answer, with some final content of what was lent, on every input: no claim over promises is empty.
pub record ListingMet : Type 0 where
  pub text : (t s : List ℕ) (n : ℕ) → (r : ℕ) × (out : List ℕ) × LaysText t s n r out
  pub decimal : (v : ℕ) (s : List ℕ) (n : ℕ) → (r : ℕ) × (out : List ℕ) × LaysDecimal v s n r out
  pub word_laid : (t : List ℕ) (x : Text) → (y : Text) × Lays t x y
  pub number_laid : (v : ℕ) (x : Text) → (y : Text) × LaysNumber v x y
  pub listing : (s before : List ℕ) → (r : ℕ) × (after : List ℕ) × LaysListing s before r after

-- And by no second: no second answer, and no second final content of what was lent.
pub record ListingOne : Type 0 where
  pub text : (t s : List ℕ) (n r r' : ℕ) (out out' : List ℕ) → LaysText t s n r out → LaysText t s n r' out' → (r ≡ r') × (out ≡ out')
  pub decimal : (v : ℕ) (s : List ℕ) (n r r' : ℕ) (out out' : List ℕ) → LaysDecimal v s n r out → LaysDecimal v s n r' out' → (r ≡ r') × (out ≡ out')
  pub word_laid : (t : List ℕ) (x y y' : Text) → Lays t x y → Lays t x y' → (y.filled.0 ≡ y'.filled.0) × (y.buffer.now ≡ y'.buffer.now)
  pub number_laid : (v : ℕ) (x y y' : Text) → LaysNumber v x y → LaysNumber v x y' → (y.filled.0 ≡ y'.filled.0) × (y.buffer.now ≡ y'.buffer.now)
  pub listing : (s before : List ℕ) (r r' : ℕ) (after after' : List ℕ) → LaysListing s before r after → LaysListing s before r' after'
      → (r ≡ r') × (after ≡ after')

pub record OfListing : Type 0 where
  pub digits : Digits
  pub listing_rows : Rows
  pub listing_fits : Fits
  pub listing_too_long : AboveLimit
  pub listing_front : FrontEnough
  pub listing_document : Document
  pub listing_taken : Taken
  pub listing_silent : Silent
  pub met : ListingMet
  pub one : ListingOne
