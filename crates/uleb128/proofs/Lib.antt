pub mod Forms
pub mod Widths
pub mod ReadsForms
