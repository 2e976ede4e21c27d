pub mod Names
pub mod Struck
pub mod Along
