pub mod Table
pub mod Trace
pub mod Lines
-- The libraries below, handed on to those above.
pub use Rattle.ca_trace_print.specs as ca_trace_print
