pub mod Pins
pub mod Stores
pub mod Histories
pub mod Holding
pub mod FromFn
