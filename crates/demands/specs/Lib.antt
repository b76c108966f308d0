pub mod Demands
pub mod Shuffles
pub mod Texts
pub mod Surveys
