pub mod Measures
pub mod Trees
pub mod Measuring
pub mod Tasks
pub mod Stacks
pub mod Writing
pub mod Answers
