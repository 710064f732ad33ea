pub mod Calls
pub mod Workers
pub mod Raced
-- The libraries below, handed on to those above.
pub use Rattle.ca_script_run.specs as ca_script_run
