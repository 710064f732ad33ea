pub mod Values
pub mod Asks
pub mod After
pub mod Hands
pub mod Meanings
pub mod Places
pub mod Steps
pub mod Laws
-- The libraries below, handed on to those above.
pub use Rattle.ca_law_parts.specs as ca_law_parts
