pub mod Runs
pub mod Vectors
pub mod Starts
pub mod Words
pub mod Engines
pub mod Refusals
