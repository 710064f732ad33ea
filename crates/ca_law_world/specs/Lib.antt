pub mod Bindings
pub mod Steady
