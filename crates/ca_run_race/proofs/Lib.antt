mod ListLemmas
mod CallLemmas
mod WorkLemmas
mod TryLemmas
mod MergeLemmas
mod EntryLemmas
mod GatherLemmas
mod RaceLemmas
