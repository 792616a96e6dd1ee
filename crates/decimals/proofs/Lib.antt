pub mod callers
pub mod Pieces
pub mod Scaling
pub mod Digits
pub mod Floors
pub mod ReadBack
