pub mod Many
pub mod Inner
