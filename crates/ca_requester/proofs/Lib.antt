pub mod ProgressLemmas
pub mod ResponseLemmas
pub mod TakingLemmas
pub mod TimerLemmas
