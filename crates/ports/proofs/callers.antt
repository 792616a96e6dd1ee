-- What the crates above may cite.
pub mod Streams
pub mod Taken
pub mod Doors
