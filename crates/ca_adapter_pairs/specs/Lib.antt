pub mod Names
pub mod Departures
pub mod Destroyed
pub mod Changed
