pub mod Scan
pub mod Answers
