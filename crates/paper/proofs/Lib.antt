pub mod Cases
pub mod Sets
pub mod Relation
