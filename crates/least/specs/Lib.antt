pub mod Least
pub mod Trees
