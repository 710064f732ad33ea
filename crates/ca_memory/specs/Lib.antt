pub mod Buffer
pub mod Number
