pub mod AmongLemmas
pub mod NumberLemmas
mod PlaceLemmas
