pub mod Operations
pub mod Verbs
