pub mod Sifting
pub mod Judging
pub mod Turns
pub mod Arrays
