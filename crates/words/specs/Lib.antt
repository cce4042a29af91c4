pub mod Refusal
pub mod Answer
pub mod Lays
pub mod Promise
pub mod Inner
