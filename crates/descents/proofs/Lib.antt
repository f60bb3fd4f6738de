pub mod Downward
