pub mod Arrival
pub mod Asks
pub mod Made
pub mod Flush
pub mod Reading
-- The libraries below, handed on to those above.
pub use Rattle.ca_grant.specs as ca_grant
pub use Rattle.ca_qpstate.specs as ca_qpstate
