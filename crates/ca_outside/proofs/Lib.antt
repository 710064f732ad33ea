mod OutsideExamples
pub mod Passed
