pub mod Sets
pub mod Ones
