-- What histories that follow the machine tell of the lists of receives: the past that their marks leave agrees with the
-- world on which receive stands at which place.
pub mod HeldLemmas
pub mod RequestLemmas
pub mod TurnLemmas
pub mod PlanLemmas
pub mod VerbLemmas
pub mod QueueLemmas
pub mod EventLemmas
