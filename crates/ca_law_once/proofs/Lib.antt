pub mod Rows
pub mod Ties
pub mod Verbs
pub mod Success
pub mod Bounds
pub mod Once
pub mod Written
