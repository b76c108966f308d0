pub mod Places
pub mod Reading
pub mod Numbers
pub mod Pairs
pub mod Forms
pub mod Steps
