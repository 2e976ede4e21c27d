pub mod Names
pub mod Bytes
pub mod Joined
pub mod Seen
pub mod Changed
pub mod Rings
