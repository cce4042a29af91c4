pub mod Signed
pub mod Promise
pub mod Inner
