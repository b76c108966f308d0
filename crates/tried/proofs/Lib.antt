pub mod Files
pub mod Laws
pub mod Only
pub mod Trees
