pub mod Places
pub mod Region
pub mod Span
pub mod View
