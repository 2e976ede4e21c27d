pub mod Names
pub mod Lists
pub mod Along
pub mod Ends
pub mod Idle
