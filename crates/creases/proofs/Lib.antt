pub mod callers
mod PlaceKeys
mod Reaching
mod IndexChanges
mod Ranges
mod Equalities
mod Found
