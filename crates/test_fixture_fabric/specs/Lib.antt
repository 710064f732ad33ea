-- The libraries below, handed on to those above.
pub use Rattle.ca_verbs.specs as ca_verbs
