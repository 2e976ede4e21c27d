pub mod Rule
pub mod Calls
pub mod Wire
