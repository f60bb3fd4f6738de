pub mod Crossing
pub mod LeafWords
pub mod Masks
