pub mod Depths
pub mod Descents
pub mod Edges
pub mod Limits
pub mod Mirrors
pub mod Neighbouring
