pub mod Told
pub mod Engine
pub mod Moves
pub mod Laws
pub mod Rounds
pub mod Newest
pub mod Claims
