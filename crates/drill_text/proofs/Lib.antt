pub mod Asking
pub mod Rooms
