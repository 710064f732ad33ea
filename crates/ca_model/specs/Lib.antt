pub mod Answers
pub mod CompletionsView
pub mod Entries
pub mod History
pub mod HistoryView
pub mod Marks
pub mod MarksView
pub mod Requests
pub mod Packets
pub mod Progress
pub mod Past
pub mod Judged
pub mod Licensed
pub mod Carried
pub mod Once
pub mod Ordered
pub mod Caused
pub mod machine
-- The libraries below, handed on to those above.
pub use Rattle.ca_psn.specs as ca_psn
pub use Rattle.ca_wire.specs as ca_wire
