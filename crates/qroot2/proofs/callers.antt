-- What the crates above may cite.
pub mod Answered
pub mod Decimals
pub mod Held
pub mod Made
pub mod Numerals
pub mod OneText
pub mod Pairs
pub mod Reading
pub mod Reduced
pub mod Signs
pub mod Splits
