pub mod Bytes
pub mod Scan
pub mod Written
pub mod Stopped
pub mod Example
pub mod Inner
