pub mod Rooms
pub mod Heavy
