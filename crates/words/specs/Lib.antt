pub mod Grammar
pub mod Words
pub mod Tasks
pub mod FirstGiven
pub mod Texts
pub mod Keep
pub mod Apps
