-- What histories that follow the machine tell of posted send requests: the past that their marks leave agrees with the
-- world.
pub mod GoingLemmas
pub mod PostFrame
pub mod PostMade
pub mod PostLaws
pub mod PostLemmas
pub mod PlaceLemmas
pub mod PostTurnLemmas
pub mod PostEventLemmas
pub mod OperationLemmas
pub mod GrantLemmas
pub mod FailureLemmas
