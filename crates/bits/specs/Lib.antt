pub mod Bits
pub mod Little
pub mod inner
