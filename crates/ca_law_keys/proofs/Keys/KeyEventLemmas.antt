-- Handed on under the names that other crates cite. For proofs only.
pub use Rattle.ca_law_keys.proofs.Keys.KeyLaws.{event-keys-agree, keys-along, opening-keys-agree}
