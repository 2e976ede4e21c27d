pub mod Names
pub mod Glances
pub mod Numbered
pub mod Heading
pub mod Scripts
pub mod Told
