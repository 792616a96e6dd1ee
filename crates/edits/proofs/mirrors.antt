-- The creases that are mirrored, and their images.
pub mod LeftSides
pub mod KeptCreases
pub mod CreaseImages
