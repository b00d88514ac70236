pub mod Bench
pub mod Allowed
pub mod Inner
