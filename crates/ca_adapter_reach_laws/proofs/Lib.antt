pub mod SightLemmas
pub mod FitLemmas
pub mod LeftLemmas
pub mod RowLemmas
pub mod TouchLemmas
pub mod WriteLemmas
-- The libraries below, handed on to those above.
pub use Rattle.ca_law_world.proofs as of_ca_law_world
