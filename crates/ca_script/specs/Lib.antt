pub mod Setup
pub mod Script
-- The libraries below, handed on to those above.
pub use Rattle.ca_script_lines.specs as ca_script_lines
