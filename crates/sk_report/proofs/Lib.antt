pub mod Names
pub mod Shown
pub mod Spelled
mod Sideways
mod Regrouped
pub mod Listed
mod Ended
pub mod Rising
pub mod Numbers
