pub mod Star
pub mod Sectors
pub mod LayerOrder
pub mod Stack
pub mod Rows
