mod Examples
pub mod SettingsLemmas
pub mod ResponseQueueLemmas
