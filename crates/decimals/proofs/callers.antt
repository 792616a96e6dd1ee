-- What the crates above may cite.
pub mod Points
pub mod Spelling
