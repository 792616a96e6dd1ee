pub mod Streams
pub mod Taken
pub mod Memory
pub mod Doors
pub mod Stops
