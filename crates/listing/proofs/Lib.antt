pub mod Faults
pub mod RowsLeft
pub mod TextFits
pub mod Laid
