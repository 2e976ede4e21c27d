pub mod Logged
pub mod Laws
pub mod Idle
