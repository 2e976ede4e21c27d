pub mod Works
pub mod Snapshot
pub mod Frames
