pub mod Lists
pub mod Cards
pub mod Answers
