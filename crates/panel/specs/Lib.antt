pub mod Panels
pub mod Calls
pub mod inner
