pub mod callers
pub mod PatternLines
pub mod Cutting
mod Points
mod SideRange
mod Touched
mod Noted
mod Taken
mod Finished
mod Listed
mod SweptLines
mod SweptVertices
mod SweptEdges
mod SweptAnswer
mod Standing
mod Ranked
mod Stepped
mod Known
pub mod FanRays
pub mod Rays
pub mod Noting
pub mod StarsKept
pub mod OneStar
