-- That every event of the machine keeps a world tied to a link.
pub mod PairLemmas
pub mod WalkLemmas
pub mod VerbTies
pub mod PollLemmas
pub mod EventTies
pub mod BeginRows
pub mod BeginLemmas
pub mod TurnWalks
pub mod BeginEvents
