pub mod Many
pub mod Words
