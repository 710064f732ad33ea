pub mod Sums
pub mod Hands
pub mod Marks
