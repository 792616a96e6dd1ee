-- What the crates above may cite.
pub mod Members
pub mod Overlaps
pub mod Standing
pub mod Lookups
pub mod SegmentChanges
pub mod Told
