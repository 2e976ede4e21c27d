pub mod Names
pub mod Own
