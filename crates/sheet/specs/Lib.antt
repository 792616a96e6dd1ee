pub mod Sheet
pub mod Pattern
