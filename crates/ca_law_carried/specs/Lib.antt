pub mod Accesses
pub mod Asked
pub mod Starts
pub mod Answered
pub mod Ended
