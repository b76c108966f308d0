pub mod Grow
pub mod Musts
