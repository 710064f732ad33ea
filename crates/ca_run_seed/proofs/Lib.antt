pub mod MadeLemmas
pub mod WorkableLemmas
pub mod RequestLemmas
pub mod BufferLemmas
pub mod SumLemmas
pub mod TextLemmas
