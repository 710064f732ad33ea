pub mod Numbered
pub mod Numbering
pub mod Finished
pub mod Outcome
pub mod Turn
pub mod Packets
-- The libraries below, handed on to those above.
pub use Rattle.ca_qp_rows.specs.ca_grant
pub use Rattle.ca_qp_rows.specs as ca_qp_rows
