pub mod TotalLoop
pub mod LayLoop
pub mod NumbersInFront
pub mod NumbersAtStart
pub mod ScanLoop
pub mod NumbersLeft
pub mod StrictAnswers
pub mod OneList
