pub mod Tried
pub mod Kept
pub mod Passes
pub mod Starting
pub mod Closing
pub mod Closed
-- The libraries below, handed on to those above.
pub use Rattle.ca_verbs_taking.specs as ca_verbs_taking
