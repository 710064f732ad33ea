-- Placed worlds: what is not configured stays vacant, and events touch nothing of it.
pub mod PlanLemmas
pub mod KeptLemmas
pub mod PlacedTurnLemmas
pub mod PlacedOperationLemmas
pub mod PlacedVerbLemmas
pub mod PlacedQueueVerbLemmas
pub mod PlacedLemmas
