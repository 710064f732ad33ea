-- Numbers that only events raise are small: how large each is at most after so many events.
pub mod NumberLemmas
pub mod RequesterNumberLemmas
pub mod ResponderNumberLemmas
pub mod WorldNumberLemmas
pub mod VerbNumberLemmas
pub mod EventNumberLemmas
pub mod LimitLemmas
