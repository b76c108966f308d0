pub mod Closing
pub mod Entering
pub mod Filled
pub mod Rows
