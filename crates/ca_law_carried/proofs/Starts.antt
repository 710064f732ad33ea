-- What histories that follow the machine tell of PSNs.
pub mod NumberLemmas
pub mod MoveLemmas
pub mod PerformLemmas
pub mod StartTurnLemmas
pub mod StartVerbLemmas
pub mod StartChangeLemmas
pub mod StartEventLemmas
