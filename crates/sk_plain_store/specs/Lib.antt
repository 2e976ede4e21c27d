pub mod Plain
pub mod Places
pub mod Laws
