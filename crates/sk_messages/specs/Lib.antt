pub mod Numbers
pub mod Requests
pub mod Replies
