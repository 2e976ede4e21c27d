pub mod Names
pub mod Keys
pub mod Clear
pub mod Numbers
mod Continues
pub mod Unwritten
pub mod Whole
pub mod Tokens
pub mod Refusals
pub mod Lawful
pub mod Undecided
pub mod NextEpoch
mod Opened
pub mod HandedIn
pub mod Entries
pub mod Appended
mod Bounds
pub mod Noted
mod Epochs
pub mod Further
mod Rooms
pub mod Opens
pub mod Held
pub mod Kept
pub mod Decided
pub mod LetGo
