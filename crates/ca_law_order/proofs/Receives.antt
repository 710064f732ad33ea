-- What histories that follow the machine tell of receives: the past that their marks leave agrees with the world, and
-- the receives of each queue pair complete in the order of their places.
pub mod ReceiveLemmas
pub mod ReceiveVerbLemmas
pub mod ReceiveEventLemmas
