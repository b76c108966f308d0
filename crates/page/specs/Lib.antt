pub mod Answers
pub mod Beginning
