pub mod Asking
-- The libraries below, handed on to those above.
pub use Rattle.ca_responder_operations.specs.ca_qp_rows
pub use Rattle.ca_responder_operations.specs as ca_responder_operations
