pub mod Measures
pub mod Tasks
pub mod Answers
