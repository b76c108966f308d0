pub mod Parts
pub mod Calls
pub mod Offices
