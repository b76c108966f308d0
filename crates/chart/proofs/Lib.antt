pub mod Laws
pub mod Charts
pub mod Tables
pub mod Entered
pub mod Right
pub mod Made
pub mod Files
