-- A law on both grammars: the line of a verb in a trace, from its consumer on, is a line of a script that says this
-- verb.
pub mod WordLemmas
pub mod VerbLemmas
pub mod CutLemmas
