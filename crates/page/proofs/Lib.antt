pub mod Checks
pub mod Seen
