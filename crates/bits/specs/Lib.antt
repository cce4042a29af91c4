pub mod Macros
pub mod Promise
