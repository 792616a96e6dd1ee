pub mod callers
pub mod Descent
pub mod InLowestTerms
pub mod Roots
pub mod ReadingParts
pub mod Vectors
