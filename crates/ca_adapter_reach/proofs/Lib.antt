pub mod EndLemmas
pub mod GrantLemmas
mod JudgeLemmas
pub mod ThingLemmas
