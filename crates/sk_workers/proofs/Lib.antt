pub mod Names
pub mod Steps
pub mod Runs
pub mod Closed
