pub mod Examples
pub mod Trials
