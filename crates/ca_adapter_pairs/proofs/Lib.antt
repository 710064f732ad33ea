mod DepartureLemmas
mod DestroyLemmas
mod FlushLemmas
mod ModifyLemmas
