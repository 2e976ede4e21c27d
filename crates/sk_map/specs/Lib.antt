pub mod KeyLemma
pub mod Seen
pub mod FoundLemma
