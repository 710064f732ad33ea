pub mod Due
pub mod Envelopes
