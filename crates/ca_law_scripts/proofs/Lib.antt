pub mod Rest
pub mod OrderLaws
pub mod Texts
pub mod Lines
pub mod CalmScripts
