pub mod Summed
pub mod Verdicts
