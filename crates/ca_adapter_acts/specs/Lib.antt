pub mod Act
pub mod Calls
pub mod Copies
pub mod Binders
pub mod Room
pub mod Outlets
pub mod Steps
