pub mod NameLemmas
-- The libraries below, handed on to those above.
pub use Rattle.ca_script_lex.proofs.of_ca_trace_lex
