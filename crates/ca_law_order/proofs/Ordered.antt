-- Law of histories: every history that the machine runs is ordered.
pub mod OrderedLemmas
