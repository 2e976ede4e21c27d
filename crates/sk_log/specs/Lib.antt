pub mod Frame
pub mod Front
pub mod Log
pub mod Crash
pub mod Segments
pub mod Reading
