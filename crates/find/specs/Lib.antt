pub mod Find
pub mod Nodes
pub mod Space
