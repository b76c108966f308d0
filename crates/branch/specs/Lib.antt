pub mod Branch
