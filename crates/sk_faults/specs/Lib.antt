pub mod Base
pub mod Parts
pub mod Tables
pub mod Found
pub mod Details
