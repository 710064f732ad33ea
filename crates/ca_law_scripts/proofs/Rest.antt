-- Laws: where all is quiet, each queue pair is at rest.
pub mod HappensLemmas
pub mod DueLemmas
pub mod TurnLemmas
pub mod CountLemmas
pub mod WaitLemmas
pub mod RestLemmas
pub mod QuietLemmas
pub mod ScriptLemmas
pub mod TextLemmas
