pub mod Number
pub mod Order
pub mod Plane
pub mod Floor
