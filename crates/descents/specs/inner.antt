pub mod Descents
