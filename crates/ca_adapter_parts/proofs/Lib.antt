pub mod ByteLemmas
pub mod HoldLemmas
mod TakingLemmas
-- The libraries below, handed on to those above.
pub use Rattle.ca_qpstate.proofs.of_ca_law_world
