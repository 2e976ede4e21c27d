pub mod Names
pub mod Renaming
