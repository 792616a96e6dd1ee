pub mod Root
pub mod Gap
pub mod Meeting
pub mod Rays
