pub mod Offers
pub mod Engine
pub mod Passing
pub mod Quiet
pub mod Loop
