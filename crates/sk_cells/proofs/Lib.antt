pub mod Names
mod Heap
pub mod Pointer
pub mod Passing
