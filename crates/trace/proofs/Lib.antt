pub mod Laws
pub mod Traced
