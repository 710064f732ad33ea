pub mod PlanLemmas
mod ChangeLemmas
mod KeptLemmas
mod BindLemmas
mod BoundLemmas
mod OperationLemmas
mod StepLemmas
mod ReadyLemmas
-- The libraries below, handed on to those above.
pub use Rattle.ca_adapter_turns.proofs as of_ca_adapter_turns
