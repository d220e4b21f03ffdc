pub mod Passing
pub mod OnePass
pub mod OnePassCases
pub mod Marked
