pub mod Rows
pub mod Hand
pub mod Rest
pub mod Replays
pub mod Replaying
pub mod Looks
-- The libraries below, handed on to those above.
pub use Rattle.ca_law_endings.specs as ca_law_endings
pub use Rattle.ca_adapter.specs.ca_requester_sends
pub use Rattle.ca_adapter_parts.specs as ca_adapter_parts
pub use Rattle.ca_adapter_opening.specs as ca_adapter_opening
