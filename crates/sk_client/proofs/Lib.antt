pub mod Names
pub mod Desks
pub mod Upcoming
pub mod Steps
