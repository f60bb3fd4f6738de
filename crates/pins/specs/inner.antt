pub mod Over
pub mod Steps
