pub mod Base
pub mod Led
pub mod Laws
pub mod Order
pub mod Host
pub mod Winding
