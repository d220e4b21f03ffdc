pub mod Limits
pub mod Kinds
pub mod Order
pub mod Step
pub mod Run
pub mod Weight
pub mod Theorems
