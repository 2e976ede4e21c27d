pub mod Names
pub mod Apart
pub mod Arrays
pub mod Lines
pub mod Steps
pub mod Streams
pub mod Typed
pub mod Whole
