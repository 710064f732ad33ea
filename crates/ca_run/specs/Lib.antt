pub mod Beside
pub mod Run
pub mod Status
