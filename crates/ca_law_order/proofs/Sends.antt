-- What histories that follow the machine tell of the sends that complete: they complete in posting order.
pub mod CompleteLemmas
pub mod SendLemmas
pub mod RowLemmas
pub mod TurnLemmas
pub mod VerbLemmas
pub mod PostingLemmas
pub mod SendEventLemmas
