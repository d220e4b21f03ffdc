pub mod Scanning
pub mod Conditions
pub mod Stages
