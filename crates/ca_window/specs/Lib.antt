pub mod Bind
pub mod Seen
pub mod View
