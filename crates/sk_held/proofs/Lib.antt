pub mod Names
mod Found
mod Kept
mod Deciding
mod Written
mod Outputs
