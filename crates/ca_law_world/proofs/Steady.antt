-- Laws of the machine: which requests of a queue pair are unfinished, and from which PSN on.
pub mod SameLemmas
pub mod RowLemmas
pub mod SendLemmas
pub mod TurnLemmas
pub mod VerbLemmas
pub mod EventLemmas
