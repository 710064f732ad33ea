mod FreeableLemmas
mod FreedLemmas
mod PollLemmas
mod TakingLemmas
