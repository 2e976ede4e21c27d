pub mod Base
pub mod Records
pub mod Queue
pub mod Calls
pub mod Runs
pub mod Places
pub mod Frames
pub mod Dense
