pub mod Sought
pub mod Spaces
