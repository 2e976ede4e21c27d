pub mod CommandLine
pub mod Ends
pub mod Messages
pub mod ReadAll
