pub mod Names
pub mod Strings
pub mod Kept
pub mod Counts
pub mod Under
