mod FlushLemmas
mod PostingLemmas
pub mod ReceiveLemmas
pub mod SendLemmas
