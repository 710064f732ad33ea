-- Bound windows: they are counted, and lie in regions that are valid.
pub mod WindowRowLemmas
pub mod WindowWorldLemmas
pub mod WindowBindLemmas
pub mod WindowOperationLemmas
pub mod WindowTurnLemmas
pub mod WindowEventLemmas
pub mod BindingLemmas
pub mod EndedLemmas
