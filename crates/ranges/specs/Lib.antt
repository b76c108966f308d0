pub mod Ranges
pub mod Closed
pub mod Calls
