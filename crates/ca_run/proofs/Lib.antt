pub mod OutputLemmas
pub mod ReadLemmas
pub mod StatusLemmas
