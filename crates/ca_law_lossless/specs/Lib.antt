pub mod Calmly
pub mod Standing
pub mod CalmTies
pub mod CalmEvents
pub mod RowMail
