pub mod Placed
pub mod Raised
pub mod Worlds
pub mod Room
