pub mod EndLemmas
pub mod FlushLemmas
pub mod SizeLemmas
-- The libraries below, handed on to those above.
pub use Rattle.ca_qp_rows.proofs as of_ca_qp_rows
