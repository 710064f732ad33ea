pub mod Accesses
pub mod Starts
pub mod Carried
