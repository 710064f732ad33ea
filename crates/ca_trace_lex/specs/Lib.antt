pub mod Words
pub mod Fits
pub mod PiecesView
pub mod Compared
pub mod Names
pub mod Fields
-- The libraries below, handed on to those above.
pub use Rattle.ca_trace_print.specs.ca_model
pub use Rattle.ca_trace_print.specs as ca_trace_print
