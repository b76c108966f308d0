pub mod Decimal
pub mod Text
pub mod Dimacs
