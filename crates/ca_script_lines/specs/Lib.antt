pub mod Rows
pub mod Grammar
-- The libraries below, handed on to those above.
pub use Rattle.ca_script_lex.specs.ca_trace_lex
pub use Rattle.ca_script_lex.specs as ca_script_lex
