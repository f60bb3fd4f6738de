pub mod LeafWord
