pub mod Base
pub mod Told
pub mod Numbers
pub mod Steps
pub mod Calls
