pub mod Names
pub mod Filled
