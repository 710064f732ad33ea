-- What histories that follow the machine tell of completions that are no success: each has its cause.
pub mod KnownLemmas
pub mod OldestLemmas
pub mod StoryLemmas
pub mod AskLemmas
pub mod SuchLemmas
pub mod ResponseStoryLemmas
pub mod RequestStoryLemmas
pub mod PassLemmas
pub mod EndLemmas
pub mod TurnLemmas
pub mod VerbLemmas
pub mod PostingLemmas
pub mod EventLemmas
pub mod RestLemmas
