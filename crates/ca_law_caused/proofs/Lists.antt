-- What is left of Caused beside the causes that are told without the link: of a receive that fails by its list, that
-- list, and on a clean connection what befell the peer.
pub mod LinkLemmas
pub mod UsualLemmas
pub mod ListedLemmas
pub mod HistoryLemmas
