pub mod Entries
mod Traces
