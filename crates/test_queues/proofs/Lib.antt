pub mod Counted
pub mod DeliveredLemmas
