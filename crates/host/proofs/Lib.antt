pub mod Answering
pub mod Vectors
pub mod Packing
