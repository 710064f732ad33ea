pub mod Access
pub mod KeySlot
pub mod Parts
pub mod Reaching
pub mod Views
-- The libraries below, handed on to those above.
pub use Rattle.ca_memory.specs as ca_memory
