mod MetLemmas
pub mod SeedLemmas
