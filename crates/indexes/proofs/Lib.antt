pub mod Every
pub mod Onward
pub mod Checks
pub mod Fetch
