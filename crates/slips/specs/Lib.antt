pub mod Good
pub mod Slip
pub mod Promise
pub mod Inner
