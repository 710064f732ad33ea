pub mod Psn
