pub mod Base
pub mod Crewed
pub mod Rounds
pub mod Ahead
pub mod Turns
pub mod Served
pub mod Duties
