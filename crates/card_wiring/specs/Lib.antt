pub mod Layout
pub mod Wired
pub mod Inner
