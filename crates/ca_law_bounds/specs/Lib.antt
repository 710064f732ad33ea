pub mod Weights
pub mod WorldWeights
pub mod PostWeights
pub mod Forward
pub mod CalmRuns
pub mod CalmMail
