pub mod Each
pub mod Exactness
pub mod Tables
