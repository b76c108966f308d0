pub mod Layouts
pub mod States
