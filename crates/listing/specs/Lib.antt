pub mod Listing
pub mod Program
pub mod Promise
pub mod Inner
