-- What is claimed, chapter by chapter: the demands of document 01, in its words and order, over the promises that the functions'
-- `ensures` are. Each chapter has a field for each claim (Of*.antt); proofs/All.antt has the one value of `Claims`, `all`. A list of
-- bytes is `Bytes`: any slice is.
--
--   Claims   all of it
use Rattle.claims.specs.OfNumbers.{OfNumbers}
use Rattle.claims.specs.OfBlocks.{OfBlocks}
use Rattle.claims.specs.OfDamage.{OfDamage}
use Rattle.claims.specs.OfLists.{OfLists}
use Rattle.claims.specs.OfTurns.{OfTurns}
use Rattle.claims.specs.OfSlips.{OfSlips}
use Rattle.claims.specs.OfPhrases.{OfPhrases}
use Rattle.claims.specs.OfEntries.{OfEntries}
use Rattle.claims.specs.OfListing.{OfListing}

pub record Claims : Type 0 where
  pub numbers : OfNumbers
  pub blocks : OfBlocks
  pub damage : OfDamage
  pub lists : OfLists
  pub turns : OfTurns
  pub slips : OfSlips
  pub phrases : OfPhrases
  pub entries : OfEntries
  pub listing : OfListing
