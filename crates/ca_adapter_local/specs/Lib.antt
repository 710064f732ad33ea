pub mod Local
pub mod Parts
pub mod Site
pub mod Made
-- The libraries below, handed on to those above.
pub use Rattle.ca_adapter_turns.specs.ca_requester_sends
pub use Rattle.ca_adapter_turns.specs as ca_adapter_turns
