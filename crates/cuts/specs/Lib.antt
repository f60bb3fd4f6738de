pub mod Cuts
pub mod inner
