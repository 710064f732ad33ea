pub mod Histories
-- The libraries below, handed on to those above.
pub use Rattle.ca_trace_read_lines.specs as ca_trace_read_lines
