-- What holds of every world that comes up, in one record.
pub mod LeadsLemmas
