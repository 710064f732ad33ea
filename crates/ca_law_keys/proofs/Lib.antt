pub mod Keys
pub mod Judged
pub mod Posts
pub mod Ways
pub mod Licensed
