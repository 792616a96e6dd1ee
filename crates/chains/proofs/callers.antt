-- What the crates above may cite.
pub mod Neighbours
pub mod Sorted
pub mod Elements
