pub mod Script
pub mod Source
pub mod Told
pub mod View
