pub mod Compare
pub mod Rows
