pub mod Answers
pub mod Rows
