pub mod Names
pub mod Numbers
pub mod Deleted
pub mod Asked
pub mod Shown
pub mod Queued
pub mod Unwritten
pub mod Alone
pub mod Said
pub mod Works
pub mod Bulks
pub mod Placed
pub mod Placings
mod Digests
mod InOrder
pub mod Spoken
