-- The text of a listing.
--
--   front_enough    the first bytes of an input, more than the limit, have its text
--   text_document   the text of document 01's 17 bytes, of the mended ones, and of no bytes
use mathlib.Core.Path.{refl, ap, sym, ◌∙◌}
use native.Mathlib.Omega.{arith}
use lib.ListN.{length, take, length-take}
use lib.Seq.{take_all}
use Rattle.words.proofs.Cases.{by_order}
use Rattle.texts.specs.Texts.{decimal, decimal_within}
use Rattle.groups.specs.Group.{run, digits}
use Rattle.groups.specs.Width.{runs_out, is_too_large, is_too_many, reading}
use Rattle.blocks.specs.Block.{block_limit}
use Rattle.blocks.specs.GroupsAndTail.{cut}
use Rattle.listing.specs.Listing.{text, row, rows}
use Rattle.listing.proofs.TextFits.{text_above}
use Rattle.claims.specs.OfListing.{FrontEnough, Document}

pub front_enough : FrontEnough
front_enough s n above =
    by_order block_limit (length s) (λ long. text_above (take n s) (omega (arith, length-take n s)) ∙ sym (text_above s long))
    (λ short. ap text (take_all n s (omega arith)))

pub text_document : Document
unfolding text row rows decimal decimal_within cut reading runs_out is_too_large is_too_many run digits
text_document = record { document = refl; mended = refl; empty = refl }
