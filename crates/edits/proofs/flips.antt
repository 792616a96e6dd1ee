-- Patterns with exchanged colours.
pub mod Flipping
