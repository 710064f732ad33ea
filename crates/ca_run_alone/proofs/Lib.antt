mod CollectLemmas
mod LoneLemmas
mod ReachLemmas
