pub mod Passed
pub mod Numerators
pub mod Found
pub mod Slants
pub mod callers
pub mod SheetSides
pub mod SidesMade
pub mod Places
