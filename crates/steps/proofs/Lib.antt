pub mod Answering
pub mod Exactness
pub mod Keeping
pub mod Once
pub mod Parts
