pub mod Bed
