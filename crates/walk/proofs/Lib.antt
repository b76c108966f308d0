pub mod Laws
pub mod Behind
pub mod Climbing
