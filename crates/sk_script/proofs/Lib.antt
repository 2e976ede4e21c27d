pub mod Names
pub mod Boots
pub mod Marks
pub mod Told
pub mod Readings
pub mod Shapes
