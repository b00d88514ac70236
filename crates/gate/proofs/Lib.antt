pub mod Pins
pub mod Types
