pub mod AskLemmas
pub mod ListLemmas
pub mod QueueLemmas
pub mod FlushLemmas
pub mod WriteLemmas
pub mod ReadLemmas
pub mod PacketLemmas
