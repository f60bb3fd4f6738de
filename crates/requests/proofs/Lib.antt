pub mod Keeping
pub mod Once
pub mod Parts
pub mod Placing
