-- Laws: the order of a script that keeps to the limits is lawful, and its marks tell the memory in which it ends.
pub mod EventLemmas
pub mod StampLemmas
pub mod LawfulLemmas
pub mod MemoryLemmas
