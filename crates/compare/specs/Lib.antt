pub mod Compare
pub mod Answers
