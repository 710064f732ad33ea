pub mod Hands
pub mod Asking
pub mod Holding
pub mod Taking
pub mod Giving
pub mod Amid
-- The libraries below, handed on to those above.
pub use Rattle.ca_adapter.specs.ca_adapter_acts
pub use Rattle.ca_adapter.specs as ca_adapter
