pub mod Base
pub mod Parts
pub mod Performed
pub mod Dependents
pub mod Taken
