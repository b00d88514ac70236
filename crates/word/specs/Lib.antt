pub mod Word
pub mod Times
