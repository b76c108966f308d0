pub mod Padded
pub mod Seeking
pub mod Tables
pub mod Given
