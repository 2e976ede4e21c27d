pub mod Names
pub mod Jobs
pub mod Numbers
pub mod Written
