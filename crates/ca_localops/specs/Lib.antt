pub mod Binds
pub mod Errors
pub mod Operations
pub mod Requests
-- The libraries below, handed on to those above.
pub use Rattle.ca_region.specs as ca_region
pub use Rattle.ca_window.specs as ca_window
