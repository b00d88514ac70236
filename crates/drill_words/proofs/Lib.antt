pub mod Parted
pub mod Spelling
pub mod Filling
pub mod Ordering
