-- Handed on under the names that other crates cite. For proofs only.
pub use Rattle.ca_law_endings.proofs.Operations.{LocalDone, done_by, former_of, leads-done, named_if, named_in}
