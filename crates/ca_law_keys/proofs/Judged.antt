-- Whatever the machine runs is judged.
pub mod WholeLemmas
pub mod JudgeLemmas
pub mod JudgeRowLemmas
pub mod JudgeVerbLemmas
pub mod JudgeOperationLemmas
pub mod JudgeEventLemmas
