pub mod Steps
pub mod ProgressView
pub mod Texts
pub mod Taken
pub mod Outside
pub mod ReaderValue
pub mod ReaderView
pub mod Reader
-- The libraries below, handed on to those above.
pub use Rattle.ca_trace_read_fits.specs as ca_trace_read_fits
