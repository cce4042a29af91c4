pub mod ClosingRows
pub mod Widths
pub mod SignedGroups
pub mod Forms
pub mod ReadsForms
