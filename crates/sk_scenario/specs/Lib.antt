pub mod Base
pub mod Calls
pub mod Declarations
pub mod Glances
pub mod KeptEvent
pub mod Scenario
pub mod WorldEvents
