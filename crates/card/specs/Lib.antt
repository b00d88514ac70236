pub mod Loaded
pub mod Session
pub mod Load
pub mod Allowed
pub mod Held
pub mod Asked
pub mod Inner
