-- What the crates above may cite.
pub mod Apart
pub mod Passed
