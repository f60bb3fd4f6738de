pub mod FirstWays
