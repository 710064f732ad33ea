-- Handed on under the names that other crates cite. For proofs only.
pub use Rattle.ca_law_endings.proofs.Leading.{leads-unless-all}
