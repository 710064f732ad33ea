-- The causes of completions that speak of the link, and with them all of Caused.
pub mod FaultLemmas
pub mod RowLemmas
pub mod SpeltLemmas
pub mod ArriveLemmas
pub mod ReasonLemmas
pub mod ReasonWalks
pub mod ToldLemmas
pub mod EntryLemmas
pub mod PeerLemmas
pub mod FitLemmas
pub mod SightLemmas
pub mod FitWalks
pub mod AnswerLemmas
pub mod PrefixLemmas
pub mod MisfitLemmas
pub mod HistoryLemmas
