pub mod Tokens
pub mod Held
pub mod Outputs
