-- That an atomic of a clean connection that completes with success was accepted once, and that the number which it
-- found is what its completion's event put into its list; and that of a SEND or a WRITE each packet was accepted.
pub mod TellLemmas
pub mod SilentRows
pub mod PutLemmas
pub mod ResultLemmas
pub mod ResponseTells
pub mod TakeLemmas
pub mod ArrivalTells
pub mod FoundLemmas
pub mod DeliverFound
pub mod ListLemmas
pub mod EventFound
