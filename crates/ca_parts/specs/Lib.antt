pub mod Lists
pub mod Hands
pub mod Views
pub mod Facts
pub mod Calls
pub mod Rows
pub mod Told
