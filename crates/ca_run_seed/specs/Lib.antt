pub mod Buffers
pub mod Requests
