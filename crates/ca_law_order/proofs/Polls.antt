-- What histories that follow the machine tell of completions that wait: the past that their marks leave agrees with the
-- world, and what a poll gives is the front of what waits.
pub mod FlushedLemmas
pub mod SideLemmas
pub mod StepLemmas
pub mod OperationLemmas
pub mod TurnLemmas
pub mod PostingLemmas
pub mod PlanLemmas
pub mod WaitLemmas
pub mod PollVerbLemmas
pub mod PollEventLemmas
