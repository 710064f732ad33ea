pub mod Counting
pub mod Sender
pub mod Weather
