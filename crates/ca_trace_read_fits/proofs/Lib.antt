pub mod HistoryLemmas
-- The libraries below, handed on to those above.
pub use Rattle.ca_trace_read_lines.proofs as of_ca_trace_read_lines
