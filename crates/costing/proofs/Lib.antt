pub mod Streets
pub mod Turns
pub mod Laws
