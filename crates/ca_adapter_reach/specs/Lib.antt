pub mod Names
pub mod Seen
pub mod AtHand
pub mod Changed
pub mod Laws
pub mod Shelved
pub mod Lending
pub mod Found
pub mod Paths
-- The libraries below, handed on to those above.
pub use Rattle.ca_grant.specs.ca_memory
pub use Rattle.ca_localops.specs.ca_region
pub use Rattle.ca_localops.specs.ca_window
pub use Rattle.ca_grant.specs as ca_grant
