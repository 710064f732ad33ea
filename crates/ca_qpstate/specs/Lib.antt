pub mod Seen
pub mod ComesUp
pub mod Start
pub mod Fields
-- The libraries below, handed on to those above.
pub use Rattle.ca_model.specs as ca_model
