pub mod Renames
pub mod Costs
pub mod Shuffles
