pub mod Rest
pub mod Limits
pub mod Lawful
pub mod Agreement
pub mod CalmScripts
