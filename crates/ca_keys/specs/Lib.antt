pub mod Numbers
pub mod Equal
pub mod Refusals
pub mod Allowed
pub mod Memory
pub mod Spelling
