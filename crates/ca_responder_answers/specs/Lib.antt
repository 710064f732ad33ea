pub mod Flush
pub mod Numbers
pub mod Sending
-- The libraries below, handed on to those above.
pub use Rattle.ca_qp_rows.specs.ca_qpstate
pub use Rattle.ca_qp_rows.specs as ca_qp_rows
