-- Laws: what a text that means a script gives.
pub mod SizeLemmas
pub mod OfferLemmas
pub mod FrontLemmas
pub mod LawfulLemmas
