pub mod Weights
pub mod Offenders
