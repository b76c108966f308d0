pub mod Behind
pub mod Flat
pub mod KnownTrees
pub mod Passes
pub mod Places
pub mod Written
