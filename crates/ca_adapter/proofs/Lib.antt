pub mod WorldLemmas
pub mod ReadyLemmas
mod PollLemmas
mod FitLemmas
mod TurnLemmas
mod WaitLemmas
mod LotLemmas
mod DepartLemmas
mod FlushLemmas
pub mod HeldLemmas
-- The libraries below, handed on to those above.
pub use Rattle.ca_law_parts.proofs as of_ca_law_parts
