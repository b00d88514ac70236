pub mod Vectors
pub mod Nets
pub mod Verdicts
pub mod Starts
