pub mod Kinds
pub mod Tally
