pub mod Equal
pub mod Grants
pub mod Configuration
pub mod Spelling
pub mod Sight
pub mod objects
pub mod Handed
pub mod Side
-- The libraries below, handed on to those above.
pub use Rattle.ca_keys.specs as ca_keys
