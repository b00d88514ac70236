pub mod Bytes
pub mod Ties
pub mod Runs
pub mod Answers
pub mod Benches
