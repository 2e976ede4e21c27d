pub mod Names
pub mod Tests
pub mod Sound
pub mod Steps
pub mod Runs
pub mod RoundRuns
pub mod Newest
pub mod Claims
