pub mod Variables
pub mod Inner
