pub mod Parts
pub mod HeldView
pub mod Taking
pub mod Lending
