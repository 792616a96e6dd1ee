-- What the crates above may cite.
pub mod Fronts
pub mod Leading
pub mod OneRefusal
pub mod OneText
pub mod Told
pub mod Headers
pub mod LineText
pub mod DeltaLines
pub mod SingleText
