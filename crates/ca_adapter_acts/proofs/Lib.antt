pub mod RefusalLemmas
mod CompletionLemmas
pub mod DoneLemmas
pub mod StepLemmas
