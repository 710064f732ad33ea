-- Every history that the machine runs is licensed: which grants it holds, and when a key comes into force and ends.
pub mod EffectLemmas
pub mod AnswerLemmas
pub mod SuccessLemmas
pub mod PerformedLemmas
pub mod EffectEventLemmas
pub mod AloneLemmas
pub mod EndingLemmas
pub mod AskedLemmas
pub mod BoundLemmas
pub mod LieLemmas
pub mod ArrivalLemmas
pub mod LicensedLemmas
