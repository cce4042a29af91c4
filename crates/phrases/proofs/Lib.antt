pub mod OneReading
mod Ahead
mod Decided
mod Halves
mod Passing
mod HalvesLoop
mod PhraseReturns
pub mod OnePhrase
