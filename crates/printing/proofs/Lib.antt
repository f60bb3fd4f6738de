pub mod Filling
pub mod Once
pub mod Showing
