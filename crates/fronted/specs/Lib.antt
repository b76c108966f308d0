pub mod Answers
pub mod Filled
