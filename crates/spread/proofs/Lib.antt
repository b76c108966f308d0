pub mod Members
pub mod Spreads
pub mod Sweeps
