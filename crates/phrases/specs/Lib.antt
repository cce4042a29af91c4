pub mod Grammar
pub mod Promise
pub mod Inner
