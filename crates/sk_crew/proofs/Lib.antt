pub mod Names
mod Ahead
mod Turns
mod Served
mod Duties
