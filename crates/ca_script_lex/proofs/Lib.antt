pub mod NumberLemmas
pub mod ListLemmas
pub mod FrontLemmas
pub mod LineLemmas
-- The libraries below, handed on to those above.
pub use Rattle.ca_trace_lex.proofs as of_ca_trace_lex
