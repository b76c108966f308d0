pub mod Answers
pub mod Head
