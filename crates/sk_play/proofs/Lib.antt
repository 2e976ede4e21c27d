pub mod Names
pub mod Decided
pub mod Turns
pub mod Replayed
pub mod Happened
pub mod Foreseen
pub mod Counted
