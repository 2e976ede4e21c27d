pub mod Base
pub mod Keys
pub mod Refused
pub mod Batched
pub mod InStep
pub mod Barred
pub mod Runs
