-- Why what the machine does at a queue pair is a move of a link: each row of its responder and its requester, each
-- packet that they spell, and each turn, timer, wake and local operation.
pub mod KeepLemmas
pub mod FoundLemmas
pub mod RequestRowLemmas
pub mod LayLemmas
pub mod WalkLemmas
pub mod ResponseRowLemmas
pub mod DecodeLemmas
pub mod SpellLemmas
pub mod EntryLemmas
pub mod PacketRowLemmas
pub mod RespondRowLemmas
pub mod ForgetLemmas
pub mod StayLemmas
pub mod ArrivalLemmas
pub mod OperationLemmas
pub mod TurnLemmas
pub mod LinkLemmas
