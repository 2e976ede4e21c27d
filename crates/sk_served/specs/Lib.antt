pub mod Base
pub mod Served
pub mod Names
pub mod Plain
pub mod Known
pub mod Laws
pub mod Calls
