pub mod Files
pub mod Over
pub mod Costs
pub mod Runs
pub mod Exists
pub mod Passing
pub mod Picks
