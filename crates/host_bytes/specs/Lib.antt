pub mod Layout
pub mod Kept
pub mod Inner
