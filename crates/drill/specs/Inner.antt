pub mod Kept
pub mod Rooms
