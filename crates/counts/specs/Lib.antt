pub mod Trees
pub mod Count
pub mod Counting
pub mod Matrix
pub mod States
