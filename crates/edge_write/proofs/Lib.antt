pub mod Lines
pub mod Lengths
pub mod Putting
pub mod Calls
