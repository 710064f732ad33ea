pub mod Made
pub mod Counted
pub mod Text
