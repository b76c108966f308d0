pub mod Enter
pub mod Answers
pub mod Parts
