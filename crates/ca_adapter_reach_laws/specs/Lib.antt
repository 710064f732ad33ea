pub mod Ties
-- The libraries below, handed on to those above.
pub use Rattle.ca_law_world.specs as ca_law_world
