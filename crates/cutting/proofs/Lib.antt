pub mod AtWork
pub mod Keeping
pub mod Merging
pub mod Passing
pub mod Splitting
pub mod ToMerge
