pub mod Offices
pub mod Sequences
