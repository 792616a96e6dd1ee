pub mod Callers
mod Putting
mod Room
mod Pieces
mod Heads
mod HeadEnds
mod Bodies
mod FieldValues
mod Answering
mod Planning
