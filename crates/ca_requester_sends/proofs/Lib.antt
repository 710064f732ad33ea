pub mod FinishedLemmas
pub mod NumberingLemmas
pub mod OutcomeLemmas
pub mod PacketLemmas
pub mod TurnLemmas
-- The libraries below, handed on to those above.
pub use Rattle.ca_qp_rows.proofs as of_ca_qp_rows
