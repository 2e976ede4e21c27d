pub mod Names
pub mod Told
pub mod Rests
pub mod Fitting
pub mod Used
pub mod Moves
pub mod Steps
pub mod Undone
pub mod Counted
pub mod Present
mod Resting
