-- What histories that follow the machine tell of memory and of keys: the past that their marks leave agrees with the
-- world, in every byte and in every key slot.
pub mod SlotLemmas
pub mod SightLemmas
pub mod ChangeLemmas
pub mod PlainLemmas
pub mod CalmLemmas
pub mod ToldLemmas
pub mod FrameLemmas
pub mod EndLemmas
pub mod KeyTurnLemmas
pub mod KeyOperationLemmas
pub mod KeyVerbLemmas
pub mod KeyFrame
pub mod KeyMade
pub mod KeyLaws
pub mod KeyEventLemmas
