pub mod Counted
pub mod Tests
pub mod Kept
pub mod Reading
pub mod Verdicts
pub mod Sessions
