pub mod Following
pub mod Left
