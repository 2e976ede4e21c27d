pub mod Names
pub mod Writing
pub mod Saying
pub mod Afterwards
mod Failing
mod Taking
pub mod Law
pub mod Found
