-- Completion queues have room: each completion of an event finds a place in its completion queue.
pub mod RoomLists
pub mod FitLemmas
pub mod KeptLemmas
pub mod AdvanceLemmas
pub mod EngineRoomLemmas
pub mod ObjectRoomLemmas
pub mod PairRoomLemmas
pub mod EmptiedRoomLemmas
pub mod DestroyRoomLemmas
pub mod CreateRoomLemmas
pub mod PollRoomLemmas
pub mod EventRoomLemmas
pub mod RoomCases
pub mod RoomLemmas
pub mod FreedLemmas
