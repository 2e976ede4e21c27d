pub mod Base
pub mod Footprints
pub mod Printed
pub mod Directories
pub mod Report
pub mod Listed
