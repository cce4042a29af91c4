-- The laws that the quick way of strict reading stands on, a file for each idea.
--
--   Front, LowBytes                       numbers one behind another, and the bytes below 128 among theirs
--   Marks, CleanLeft                      the sound scan: what its marks tell, and that a clean block is numbers
--   Bytewise, FirstFlag, PairedDigits     eight bytes as one number: masks, the first flag, digits put together
--   HighBits, NumberInWord, NumberAtOnce  what the high bits of a word tell, and the number that it begins with
--   Smalls, BytesStored                   small bytes at the front; bytes loaded as a number, and stored as numbers
--   Overwriting, Steps, RestLoop          stores over stores; what a step takes and stores; the last few, one by one
--   Stream, HalvesLoop, Split             one stream, the loop over two, and the block in two halves
pub mod Front
pub mod LowBytes
pub mod Marks
pub mod CleanLeft
pub mod Bytewise
pub mod FirstFlag
pub mod PairedDigits
pub mod Smalls
pub mod HighBits
pub mod NumberInWord
pub mod NumberAtOnce
pub mod BytesStored
pub mod Overwriting
pub mod Steps
pub mod RestLoop
pub mod Stream
pub mod HalvesLoop
pub mod Split
