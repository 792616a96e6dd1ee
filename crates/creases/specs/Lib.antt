pub mod Creases
pub mod Standing
pub mod Places
pub mod Index
pub mod Segments
