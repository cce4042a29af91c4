pub mod Block
pub mod GroupsAndTail
pub mod Promise
pub mod Rows
pub mod Places
pub mod Readings
pub mod Inner
