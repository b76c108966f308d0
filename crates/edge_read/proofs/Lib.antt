pub mod Files
pub mod Held
pub mod Reading
pub mod Scans
pub mod Turns
