pub mod Names
pub mod Taken
pub mod Reached
pub mod Counted
pub mod Joined
pub mod Crashed
mod Snapshots
