pub mod Known
pub mod Vectors
pub mod Regions
