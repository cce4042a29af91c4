pub mod Standing
pub mod Saying
pub mod Promise
pub mod Given
pub mod Inner
