pub mod Next
-- The libraries below, handed on to those above.
pub use Rattle.ca_requester.specs.ca_requester_sends
