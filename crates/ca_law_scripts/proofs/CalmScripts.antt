-- How many entries the histories of a script in calm weather have, as laws of scripts.
pub mod CallLemmas
pub mod CalmLemmas
pub mod BoundLemmas
