-- Rows and whole texts, laid down.
--
--   row_laid                           the parts of a row, laid down one behind the other, are the row
--   LaidLeft                           what the loop over the rows holds: the place is a start or the end, and whatever is laid down of the rows that are left
--                                      there, all rows then are
--   rows_begun, row_more, rows_ended   before the first row, behind one more, and where none is left
--   long_laid, rows_laid               the listing of a block above the limit, and that of one within it, whose header and rows were laid down
--   fronts, fronts_within              a text that the buffer has room for, laid down where nothing was filled, stands at its front, within the buffer
use Prim.Native.Nat.{ℕ, ◌+◌, ◌-◌, ◌≤◌, ◌<◌}
use mathlib.Core.Path.{◌≡◌, refl}
use mathlib.Core.Logic.{inl}
use mathlib.Core.List.{List, [], ◌++◌, append_assoc}
use native.Mathlib.Omega.{arith}
use lib.ListN.{length, drop, length-append}
use lib.Seq.{take_all}
use Rattle.texts.specs.Texts.{ascii, decimal, LaysText, Lays}
use Rattle.texts.specs.declared.Text.{Text}
use Rattle.texts.proofs.LaysText.{joined, joined_laid, front_laid, front_count}
use Rattle.blocks.specs.Block.{block_limit}
use Rattle.blocks.proofs.FromStart.{front_start}
use Rattle.listing.specs.Listing.{row, text, text_room}
use Rattle.listing.specs.Inner.{spaced}
use Rattle.listing.specs.Promise.{Fronts, LaysListing}
use Rattle.listing.proofs.TextFits.{text_above, text_within, text_fits}
use Rattle.listing.proofs.RowsLeft.{Here, left, Behind}

-- the spaces stand with the word
row_parts : (p : ℕ) (what : List ℕ) (v : ℕ) → decimal p ++ spaced what ++ decimal v ++ ascii "\n" ≡ row p what v
unfolding row
row_parts p what v = simp append_assoc

pub row_laid : (p : ℕ) (what : List ℕ) (v : ℕ) {x y z u w : Text} → Lays (decimal p) x y → Lays (spaced what) y z → Lays (decimal v) z u → Lays (ascii "\n") u w
    → Lays (row p what v) x w
row_laid p what v a b c d = rw (← (row_parts p what v)) (joined (joined (joined a b) c) d)

pub record LaidLeft (block : List ℕ) (first : Text) (at : ℕ) (now : Text) : Type 0 where
  pub here : Here block at
  pub rest : (x : Text) → Lays (left block at) now x → Lays (left block 0) first x

pub rows_begun : {block : List ℕ} {x : Text} → LaidLeft block x 0 x
rows_begun {block} = record { here = inl (front_start block); rest = λ x p. p }

pub row_more : {block what : List ℕ} {first now then : Text} {at v n : ℕ} → LaidLeft block first at now → Behind block at what v n
    → Lays (row at what v) now then → LaidLeft block first (at + n) then
row_more i b p = record { here = b.here; rest = λ x q. i.rest x (rw b.goes_on (joined p q)) }

-- nothing, laid down
nothing_laid : (x : Text) → Lays [] x x
nothing_laid x =
    let e = take_all {A = ℕ} (length x.buffer.now - x.filled.0) [] (omega arith) in
    record { lent = refl; laid = record { count = rw e (omega arith); bytes = rw e } }

pub rows_ended : {block : List ℕ} {first now : Text} {at : ℕ} → LaidLeft block first at now → left block at ≡ [] → Lays (left block 0) first now
rows_ended {now = now} i e = i.rest now (rw e (nothing_laid now))

-- where there is room for it at the front, a text stands there
pub fronts : {t s s' : List ℕ} {r : ℕ} → length t ≤ length s → LaysText t s 0 r s' → Fronts t s r s'
fronts room p = record { count = front_count room p; bytes = front_laid room p }

pub fronts_within : {t s s' : List ℕ} {r : ℕ} → Fronts t s r s' → r ≤ length s'
fronts_within {t} {s} p = rw p.bytes (omega (arith, p.count, length-append t (drop (length t) s)))

module _ (s before : List ℕ) (room : length before ≡ text_room) where
  fits : length (text s) ≤ length before
  fits = omega (arith, text_fits s, room)

  pub long_laid : {r : ℕ} {after : List ℕ} → block_limit < length s → LaysText (ascii "refused 7\n") before 0 r after → LaysListing s before r after
  long_laid long p = fronts fits (rw (text_above s long) p)

  pub rows_laid : {n r : ℕ} {between after : List ℕ} → length s ≤ block_limit → LaysText (ascii "place what value\n") before 0 n between
      → LaysText (left s 0) between n r after → LaysListing s before r after
  rows_laid short p q = fronts fits (rw (text_within s short) (joined_laid p q))
