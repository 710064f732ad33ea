pub mod Causes
pub mod Explained
pub mod Rest
pub mod Listed
pub mod Refused
pub mod Linked
pub mod Relations
