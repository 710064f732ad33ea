pub mod Places
pub mod Slots
pub mod Windows
-- The libraries below, handed on to those above.
pub use Rattle.ca_region.proofs as of_ca_region
