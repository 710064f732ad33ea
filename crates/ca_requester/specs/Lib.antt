pub mod Progress
pub mod Responses
pub mod Timers
-- The libraries below, handed on to those above.
pub use Rattle.ca_requester_sends.specs.ca_qp_rows
pub use Rattle.ca_requester_sends.specs as ca_requester_sends
