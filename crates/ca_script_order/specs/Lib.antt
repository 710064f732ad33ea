pub mod Visits
pub mod Order
pub mod OfScript
pub mod Summary
-- The libraries below, handed on to those above.
pub use Rattle.ca_model_places.specs as ca_model_places
pub use Rattle.ca_script.specs.ca_script_lines
pub use Rattle.ca_script.specs as ca_script
