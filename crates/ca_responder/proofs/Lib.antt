pub mod AnswerLemmas
pub mod ArrivalLemmas
pub mod ShapeLemmas
pub mod AskingLemmas
pub mod ValidLemmas
pub mod WaitingLemmas
-- The libraries below, handed on to those above.
pub use Rattle.ca_responder_operations.proofs.of_ca_qp_rows
