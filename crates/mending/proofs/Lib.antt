pub mod Mends
pub mod Once
