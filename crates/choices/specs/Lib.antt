pub mod Truth
pub mod OnePass
pub mod OnePassCases
pub mod Judged
