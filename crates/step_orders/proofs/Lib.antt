pub mod Judging
pub mod Seen
pub mod Marking
