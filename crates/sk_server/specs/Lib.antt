pub mod Files
pub mod Server
pub mod Calls
pub mod Lent
pub mod Verdict
