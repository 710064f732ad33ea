-- The libraries below, handed on to those above.
pub use Rattle.ca_model.proofs as of_ca_model
pub use Rattle.ca_law_world.proofs as of_ca_law_world
