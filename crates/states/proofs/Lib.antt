pub mod Rest
pub mod Full
pub mod Due
pub mod Past
pub mod Beyond
pub mod With
pub mod Open
