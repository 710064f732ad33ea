pub mod Access
pub mod Atomics
pub mod Receives
pub mod Requests
pub mod Sends
pub mod StandIn
pub mod Taking
-- The libraries below, handed on to those above.
pub use Rattle.ca_responder_answers.specs.ca_qp_rows
