pub mod Table
pub mod Exactly
pub mod inner
