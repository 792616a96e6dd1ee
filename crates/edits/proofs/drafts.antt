-- A draft beside its pattern: what is gone from it, and what came.
pub mod Beside
pub mod BesideSteps
pub mod Gathered
pub mod Changing
pub mod DraftLists
