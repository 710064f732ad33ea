mod Examples
pub mod ReplyLemmas
pub mod StretchLemmas
pub mod CallLemmas
pub mod CoverLemmas
pub mod ExtentLemmas
pub mod FollowLemmas
pub mod PutLemmas
pub mod RunLemmas
