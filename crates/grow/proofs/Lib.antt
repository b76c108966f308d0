pub mod Laws
pub mod Grow
pub mod Musts
pub mod Leads
