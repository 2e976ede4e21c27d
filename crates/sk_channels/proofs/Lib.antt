pub mod Names
pub mod Asks
pub mod Cuts
pub mod Heard
pub mod Served
pub mod Stepped
pub mod Tellings
