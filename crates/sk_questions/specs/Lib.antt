pub mod Named
pub mod Questions
