pub mod Atoms
pub mod Language
pub mod Transitions
pub mod Next
pub mod Theorems
pub mod Cases
