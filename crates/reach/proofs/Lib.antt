pub mod Opened
pub mod Word
