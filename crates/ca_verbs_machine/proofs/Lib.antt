-- The libraries below, handed on to those above.
pub use Rattle.ca_law_parts.proofs as of_ca_law_parts
