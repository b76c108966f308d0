pub mod Operations
pub mod Runs
