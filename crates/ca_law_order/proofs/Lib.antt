pub mod Polls
pub mod Sends
pub mod Receives
pub mod Lists
pub mod Ordered
