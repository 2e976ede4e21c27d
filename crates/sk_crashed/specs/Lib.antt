pub mod Written
pub mod Disk
pub mod Laws
