pub mod Laws
pub mod Ends
