pub mod OperationLemmas
pub mod VerbLemmas
