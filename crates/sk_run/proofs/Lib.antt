pub mod Names
mod InTurn
mod Ended
pub mod Talked
mod Plainly
pub mod Listed
