pub mod InTurn
pub mod Tails
