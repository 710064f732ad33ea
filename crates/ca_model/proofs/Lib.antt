pub mod FrameLemmas
pub mod PerformLemmas
pub mod HistoryLemmas
pub mod Literals
mod Machine
pub mod RestLemmas
pub mod ThingLemmas
