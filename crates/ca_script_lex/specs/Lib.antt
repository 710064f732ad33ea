pub mod Causes
pub mod Reading
pub mod Words
pub mod Front
pub mod Kinds
pub mod CursorView
-- The libraries below, handed on to those above.
pub use Rattle.ca_trace_lex.specs.ca_model
pub use Rattle.ca_trace_lex.specs as ca_trace_lex
