pub mod callers
mod Stars
