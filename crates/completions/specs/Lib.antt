pub mod Greedy
pub mod Coming
pub mod Boxes
pub mod Rows
pub mod Search
pub mod Labels
pub mod Weights
