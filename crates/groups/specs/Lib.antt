pub mod Group
pub mod Width
pub mod Form
pub mod Begins
pub mod Promise
pub mod Inner
