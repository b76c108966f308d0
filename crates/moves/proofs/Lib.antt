pub mod Parts
pub mod Turns
