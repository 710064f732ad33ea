pub mod Ready
-- The libraries below, handed on to those above.
pub use Rattle.ca_law_parts.specs as ca_law_parts
pub use Rattle.ca_adapter_footprint.specs.ca_requester_sends
pub use Rattle.ca_adapter_acts.specs as ca_adapter_acts
