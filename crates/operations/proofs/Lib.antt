pub mod Engines
pub mod Kept
