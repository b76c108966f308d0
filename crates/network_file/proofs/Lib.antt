pub mod Accepted
pub mod Opened
pub mod Bytes
pub mod KindBytes
pub mod Frames
