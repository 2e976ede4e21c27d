pub mod Names
pub mod Covered
