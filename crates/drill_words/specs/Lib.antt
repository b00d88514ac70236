pub mod Filled
pub mod Parts
pub mod Digits
pub mod Orders
