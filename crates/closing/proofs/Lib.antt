pub mod Drawing
pub mod NearWords
pub mod Pulling
