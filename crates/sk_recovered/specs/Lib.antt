pub mod Base
pub mod Segments
pub mod Frames
pub mod Recovered
pub mod Laws
pub mod Crash
pub mod Snapshots
