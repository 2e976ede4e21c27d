pub mod Renamed
pub mod Laws
