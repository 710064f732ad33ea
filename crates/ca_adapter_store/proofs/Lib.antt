mod PartLemmas
mod RowLemmas
mod TogetherLemmas
mod GatherLemmas
mod MadeLemmas
mod ActLemmas
mod OpenLemmas
mod ReplayLemmas
mod LookLemmas
pub mod RestLemmas
-- The libraries below, handed on to those above.
pub use Rattle.ca_adapter.proofs.of_ca_law_parts
pub use Rattle.ca_law_endings.proofs as of_ca_law_endings
