pub mod Base
pub mod Parts
pub mod Calls
pub mod Emptied
pub mod Law
pub mod WholeStep
