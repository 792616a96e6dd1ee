-- What the crates above may cite.
pub mod OneAnswer
pub mod Gets
pub mod Range
pub mod FansHeld
