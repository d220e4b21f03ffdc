pub mod Loops
pub mod Below
pub mod KnownAtoms
pub mod Members
pub mod Zeros
pub mod Ones
pub mod Together
