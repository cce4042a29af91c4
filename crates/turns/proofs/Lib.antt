pub mod Threads
pub mod OneTurn
