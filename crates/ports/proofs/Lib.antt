pub mod callers
