pub mod WordsFrom
pub mod Solid
pub mod AllWords
pub mod Next
pub mod callers
