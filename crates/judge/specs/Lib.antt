pub mod Conditions
pub mod Verdict
pub mod Cause
pub mod Faults
