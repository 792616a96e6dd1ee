pub mod Marks
pub mod Rows
pub mod Reading
pub mod Changes
