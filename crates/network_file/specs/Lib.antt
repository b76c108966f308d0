pub mod File
pub mod Bytes
pub mod Frames
