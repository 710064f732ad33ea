pub mod Stepped
pub mod Shown
pub mod Senders
-- The libraries below, handed on to those above.
pub use Rattle.ca_adapter_reach_laws.specs.ca_law_world
pub use Rattle.ca_requester.specs.ca_requester_sends
pub use Rattle.ca_adapter_reach_laws.specs as ca_adapter_reach_laws
pub use Rattle.ca_adapter_acts.specs as ca_adapter_acts
