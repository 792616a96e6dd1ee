pub mod CreaseRows
pub mod StepRows
pub mod OneProject
pub mod Changing
