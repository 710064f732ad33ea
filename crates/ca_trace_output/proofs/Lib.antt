pub mod WrittenLemmas
