-- What is claimed of the listing, proved.
--
--   listing   the chapter
use Prim.Native.Nat.{ℕ, ◌+◌, ◌-◌}
use mathlib.Core.Path.{◌≡◌, refl, sym, ◌∙◌}
use mathlib.Core.List.{List, ◌++◌}
use lib.ListN.{length, take, drop}
use lib.Seq.{sets}
use Rattle.texts.specs.Texts.{decimal, LaysText, Lays}
use Rattle.texts.specs.declared.Text.{Text}
use Rattle.texts.proofs.Decimals.{decimal_small, decimal_large}
use Rattle.blocks.proofs.FromStart.{group_here}
use Rattle.listing.specs.Listing.{text}
use Rattle.listing.proofs.TextFits.{text_above, text_within, text_fits}
use Rattle.listing.proofs.RowsLeft.{end_left, tail_left, group_left}
use Rattle.claims.specs.OfListing.{OfListing}
use Rattle.claims.proofs.Text.{front_enough, text_document}
use Rattle.claims.proofs.Program.{taken, silent}

some_text : (t s : List ℕ) (n : ℕ) → (r : ℕ) × (out : List ℕ) × LaysText t s n r out
some_text t s n = (n + length (take (length s - n) t), sets s n (take (length s - n) t), record { count = refl; bytes = refl })

one_text : (t s : List ℕ) (n r r' : ℕ) (out out' : List ℕ) → LaysText t s n r out → LaysText t s n r' out' → (r ≡ r') × (out ≡ out')
one_text t s n r r' out out' a b = (a.count ∙ sym b.count, a.bytes ∙ sym b.bytes)

some_laid : (t : List ℕ) (x : Text) → (y : Text) × Lays t x y
some_laid t x =
    let some = some_text t x.buffer.now x.filled.0 in
    (record { buffer = record x.buffer { now = some.1 }; filled = record { 0 = some.0 } }, record { lent = refl; laid = some.2 })

one_laid : (t : List ℕ) (x y y' : Text) → Lays t x y → Lays t x y' → (y.filled.0 ≡ y'.filled.0) × (y.buffer.now ≡ y'.buffer.now)
one_laid t x y y' a b = one_text t x.buffer.now x.filled.0 y.filled.0 y'.filled.0 y.buffer.now y'.buffer.now a.laid b.laid

pub listing : OfListing
listing = record {
  digits = λ v. (decimal_small v, decimal_large v);
  listing_rows = record {
    header = text_within;
    group = λ s p g k. group_left s p g (group_here k);
    tail = tail_left;
    end = λ s. end_left s (length s) refl;
  };
  listing_fits = text_fits;
  listing_too_long = text_above;
  listing_front = front_enough;
  listing_document = text_document;
  listing_taken = taken;
  listing_silent = silent;
  met = record {
    text = some_text;
    decimal = λ v. some_text (decimal v);
    word_laid = some_laid;
    number_laid = λ v. some_laid (decimal v);
    listing = λ s before. (length (text s), text s ++ drop (length (text s)) before, record { count = refl; bytes = refl });
  };
  one = record {
    text = one_text;
    decimal = λ v. one_text (decimal v);
    word_laid = one_laid;
    number_laid = λ v. one_laid (decimal v);
    listing = λ s before r r' after after' a b. (a.count ∙ sym b.count, a.bytes ∙ sym b.bytes);
  };
}
