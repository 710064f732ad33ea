pub mod Groups
pub mod Alone
pub mod Cover
pub mod Covering
pub mod Extents
pub mod InForce
pub mod Putting
