pub mod InTurn
pub mod Records
pub mod inner
