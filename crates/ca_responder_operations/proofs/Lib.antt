pub mod AtomicLemmas
pub mod OutcomeLemmas
pub mod SendLemmas
pub mod StandInLemmas
pub mod TakingLemmas
pub mod WriteLemmas
pub mod EndLemmas
-- The libraries below, handed on to those above.
pub use Rattle.ca_responder_answers.proofs.of_ca_qp_rows
pub use Rattle.ca_responder_answers.proofs as of_ca_responder_answers
