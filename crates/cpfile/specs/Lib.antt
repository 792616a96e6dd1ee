pub mod CpDrawing
pub mod CpReading
pub mod CpAxes
pub mod CpWords
pub mod CpSteps
pub mod CpText
