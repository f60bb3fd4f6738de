pub mod Making
pub mod Once
pub mod SingleCalls
