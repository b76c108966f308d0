pub mod Laws
pub mod Comes
pub mod Question
