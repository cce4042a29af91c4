pub mod LaysText
pub mod Decimals
