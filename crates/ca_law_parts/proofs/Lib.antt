pub mod Names
pub mod Numbers
pub mod Parts
pub mod Worlds
pub mod Room
