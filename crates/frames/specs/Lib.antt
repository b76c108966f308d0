pub mod Frame
pub mod Answers
