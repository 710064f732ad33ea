pub mod Progress
pub mod Known
pub mod Working
pub mod Statuses
pub mod Vain
-- The libraries below, handed on to those above.
pub use Rattle.ca_adapter_store.specs as ca_adapter_store
pub use Rattle.ca_engine.specs as ca_engine
