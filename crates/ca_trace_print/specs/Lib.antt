pub mod Words
pub mod Verbs
-- The libraries below, handed on to those above.
pub use Rattle.ca_model.specs as ca_model
