pub mod Depth
pub mod Limits
pub mod Neighbours
