-- The points, the creases and the refusals of a rabbit ear.
pub mod OneEar
pub mod Points
pub mod Creases
pub mod Rules
pub mod Found
