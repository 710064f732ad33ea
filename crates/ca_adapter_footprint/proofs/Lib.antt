mod AlsoLemmas
mod HasLemmas
mod KeyLemmas
pub mod ReadyLemmas
mod TurnLemmas
