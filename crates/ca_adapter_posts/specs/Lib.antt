pub mod Drawing
pub mod Posting
