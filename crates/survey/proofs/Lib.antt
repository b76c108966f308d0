pub mod Pairs
pub mod Standing
pub mod Counting
pub mod Parts
pub mod Putting
pub mod Files
pub mod Calls
