-- What histories that follow the machine tell of remote accesses: the past that their marks leave agrees with the
-- world, and each access has the packet that asks for it.
pub mod DecodedLemmas
pub mod QuietLemmas
pub mod EndLemmas
pub mod CarryLemmas
pub mod AccessRowLemmas
pub mod RespondLemmas
pub mod TurnLemmas
pub mod ArrivalLemmas
pub mod VerbLemmas
pub mod ChangeLemmas
pub mod EventLemmas
