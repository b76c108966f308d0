pub mod Checks
pub mod Given
