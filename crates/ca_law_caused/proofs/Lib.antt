pub mod Caused
pub mod Lists
pub mod Link
pub mod RelationLemmas
