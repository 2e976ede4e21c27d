pub mod Names
pub mod Joins
pub mod Undoing
pub mod Ready
pub mod Logs
pub mod Maps
pub mod Tables
pub mod Counts
