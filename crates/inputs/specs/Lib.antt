pub mod Allowed
pub mod Inner
pub mod Inputs
