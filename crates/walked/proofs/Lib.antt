pub mod Turns
pub mod Tables
pub mod Vectors
