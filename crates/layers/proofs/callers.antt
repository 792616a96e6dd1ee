-- What the crates above may cite.
pub mod Places
pub mod Orders
