pub mod Names
pub mod Views
pub mod TerminalMaps
pub mod SaidTo
mod HeldTexts
mod Numbers
mod Listed
mod Decided
mod SameViews
