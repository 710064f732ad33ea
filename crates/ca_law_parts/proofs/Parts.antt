-- The parts of a fabric that an event needs.
pub mod NeedsLemmas
pub mod TouchLemmas
pub mod WriteLemmas
pub mod PartLemmas
pub mod TableLemmas
pub mod VerbPartLemmas
pub mod CountLemmas
pub mod EventPartLemmas
pub mod HeldLemmas
pub mod ConfiguredLemmas
