pub mod Pins
pub mod inner
