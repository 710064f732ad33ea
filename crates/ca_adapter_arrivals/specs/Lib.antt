pub mod Arrived
-- The libraries below, handed on to those above.
pub use Rattle.ca_adapter_turns.specs as ca_adapter_turns
