pub mod Domains
pub mod Bounds
