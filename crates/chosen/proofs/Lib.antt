pub mod Flags
pub mod Laws
pub mod Passed
