pub mod Sums
pub mod Rank
pub mod inner
