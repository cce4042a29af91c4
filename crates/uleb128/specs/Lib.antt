pub mod Unsigned
pub mod Promise
pub mod Inner
