pub mod OfferLemmas
pub mod EngineLemmas
pub mod PassingLemmas
pub mod QuietLemmas
pub mod VisitLemmas
pub mod OfferedLemmas
pub mod LoopLemmas
