pub mod Names
pub mod Keys
