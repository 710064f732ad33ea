-- The bounds on the numbers of a connection, as laws of worlds that are tied to a link.
pub mod BoundLemmas
