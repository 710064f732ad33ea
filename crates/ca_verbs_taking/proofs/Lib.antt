pub mod PartLemmas
pub mod CountLemmas
pub mod HandLemmas
pub mod SeenLemmas
pub mod NextLemmas
mod GiveLemmas
pub mod UnpackLemmas
mod TakeLemmas
mod AllLemmas
-- The libraries below, handed on to those above.
pub use Rattle.ca_adapter.proofs as of_ca_adapter
