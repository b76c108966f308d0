pub mod Walk
pub mod Climbing
