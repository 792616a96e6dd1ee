pub mod callers
pub mod Floors
pub mod Lifts
pub mod Passed
pub mod Small
mod Rows
