-- What a ray meets of creases and sides, and the segment to the first of them.
pub mod OneSegment
pub mod Together
pub mod Nearer
pub mod AllMet
pub mod Extended
