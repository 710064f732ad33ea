pub mod Numbers
pub mod Held
pub mod Laws
pub mod Tried
