pub mod Sound
pub mod Windows
pub mod Steady
