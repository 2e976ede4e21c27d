pub mod Names
pub mod Again
