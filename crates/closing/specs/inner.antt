pub mod Wordwise
