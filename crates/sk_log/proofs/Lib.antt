pub mod Names
mod Digits
mod Fade
pub mod Crash
mod Read
mod Blanked
mod Reading
pub mod Once
mod Further
pub mod Segments
mod First
mod Told
