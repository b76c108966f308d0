pub mod Agreeing
pub mod Opening
