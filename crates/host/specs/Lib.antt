pub mod Calls
pub mod Vectors
