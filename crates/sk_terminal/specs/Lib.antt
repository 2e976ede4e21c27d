pub mod Terminal
pub mod Terminals
pub mod Held
pub mod TerminalInvariant
pub mod Listing
pub mod Same
pub mod SameLemma
