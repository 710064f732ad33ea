-- The objects of an adapter: what each is, why a change of it is refused, and what the change makes of it. One file a
-- noun. Contracts cite them.
pub mod Slices
pub mod Region
pub mod Window
pub mod LocalRequest
pub mod WorkQueue
pub mod SharedReceives
pub mod CompletionQueue
pub mod Saved
pub mod Answers
pub mod Mailbox
pub mod Domain
pub mod QueuePair
pub mod StateTable
