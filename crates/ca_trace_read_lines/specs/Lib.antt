pub mod Answers
pub mod Reading
pub mod Fits
pub mod Calls
