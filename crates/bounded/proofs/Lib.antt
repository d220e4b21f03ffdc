pub mod Wording
pub mod Calling
pub mod Narrow
