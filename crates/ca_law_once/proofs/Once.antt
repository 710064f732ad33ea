-- Every history that follows the machine is Once: each atomic of a clean connection acts at most once, and exactly
-- once, with the number that it found in its list, where it completed with success.
pub mod MarkLemmas
pub mod VerbLemmas
pub mod ActedLemmas
pub mod MailTolds
pub mod ShapeLemmas
pub mod NoteLemmas
pub mod RightLemmas
pub mod FoundTolds
pub mod StepTolds
pub mod LastingLemmas
pub mod NamingLemmas
pub mod AgreeLemmas
pub mod RunLemmas
pub mod OnceLemmas
pub mod SuccessLemmas
pub mod WholeLemmas
