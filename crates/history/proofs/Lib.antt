pub mod callers
pub mod Fronts
