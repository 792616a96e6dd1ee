mod Sums
mod Sectors
mod Verdicts
pub mod Faults
