pub mod ActedLemmas
pub mod ReceiptLemmas
pub mod StartLemmas
pub mod TurnLemmas
pub mod FewLemmas
mod PlacingLemmas
mod CloseLemmas
mod LawfulLemmas
-- The libraries below, handed on to those above.
pub use Rattle.ca_verbs_taking.proofs as of_ca_verbs_taking
