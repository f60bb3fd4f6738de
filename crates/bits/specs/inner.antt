pub mod Abreast
pub mod Puts
