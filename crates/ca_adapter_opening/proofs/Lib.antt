mod AddedLemmas
pub mod ContentsLemmas
mod FitLemmas
mod RowLemmas
pub mod WorldLemmas
mod ZeroLemmas
