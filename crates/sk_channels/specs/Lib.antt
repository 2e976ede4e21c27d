pub mod Base
pub mod Asking
pub mod Hearing
pub mod Laws
pub mod Rejections
pub mod Serving
pub mod Table
pub mod Telling
