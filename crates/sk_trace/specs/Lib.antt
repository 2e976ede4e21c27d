pub mod Entry
pub mod Kept
pub mod Event
pub mod Trace
pub mod Lines
pub mod Text
pub mod LentEvent
