pub mod NameBytes
pub mod Numbers
pub mod callers
