pub mod Accounts
pub mod Own
