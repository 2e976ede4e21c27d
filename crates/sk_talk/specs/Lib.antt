pub mod Base
pub mod Played
pub mod Lines
pub mod Asked
pub mod Epochs
pub mod Leases
pub mod HandedOut
