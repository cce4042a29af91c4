pub mod Cases
pub mod OneNumber
pub mod Lays
pub mod OneMeaning
pub mod Moved
pub mod LaysExactly
pub mod LaysInParts
