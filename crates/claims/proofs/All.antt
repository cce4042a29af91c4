-- The one value of `Claims`: everything that is claimed, proved.
--
--   all   the chapters together
use Rattle.claims.specs.Claims.{Claims}
use Rattle.claims.proofs.OfNumbers.{numbers}
use Rattle.claims.proofs.OfBlocks.{blocks}
use Rattle.claims.proofs.OfDamage.{damage}
use Rattle.claims.proofs.OfLists.{lists}
use Rattle.claims.proofs.OfTurns.{turns}
use Rattle.claims.proofs.OfSlips.{slips}
use Rattle.claims.proofs.OfPhrases.{phrases}
use Rattle.claims.proofs.OfEntries.{entries}
use Rattle.claims.proofs.OfListing.{listing}

pub all : Claims
all = record {
  numbers = numbers;
  blocks = blocks;
  damage = damage;
  lists = lists;
  turns = turns;
  slips = slips;
  phrases = phrases;
  entries = entries;
  listing = listing;
}
