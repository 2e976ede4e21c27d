pub mod Names
mod Halves
pub mod Again
