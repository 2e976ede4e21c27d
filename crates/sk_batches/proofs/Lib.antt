pub mod Names
pub mod Lists
pub mod Order
pub mod Synced
pub mod Lost
pub mod Rest
pub mod Dense
pub mod Sealing
