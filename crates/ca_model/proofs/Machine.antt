-- Examples of the machine's rows, as tables. For proofs only.
pub mod AnsweredVerbs
pub mod Furnished
pub mod MarksSeen
mod VerbCases
mod ChangeCases
mod TurnCases
mod LocalCases
mod ArrivalCases
mod ResponseCases
mod SentCases
mod RunCases
mod CompletionCases
mod PartCases
