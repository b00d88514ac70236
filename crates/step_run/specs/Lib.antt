pub mod Runs
pub mod Vector
pub mod AnyOrder
pub mod Inner
