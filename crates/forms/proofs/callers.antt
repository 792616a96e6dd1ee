-- What the crates above may cite.
pub mod Common
pub mod Marked
