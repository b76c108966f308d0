pub mod Checks
pub mod Ended
