pub mod TurnLemmas
pub mod TimerLemmas
mod ReachLemmas
mod LeaveLemmas
mod SenderLemmas
mod RowLemmas
mod TakingLemmas
-- The libraries below, handed on to those above.
pub use Rattle.ca_adapter_reach_laws.proofs.of_ca_law_world
pub use Rattle.ca_adapter_reach_laws.proofs as of_ca_adapter_reach_laws
pub use Rattle.ca_adapter_acts.proofs as of_ca_adapter_acts
