pub mod Opening
pub mod Added
pub mod Zeros
pub mod Limits
