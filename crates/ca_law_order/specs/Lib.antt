pub mod Polls
pub mod Completed
pub mod InOrder
pub mod Receives
pub mod Lists
