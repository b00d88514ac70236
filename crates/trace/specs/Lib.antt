pub mod Traced
pub mod Inner
