pub mod HighBit
