pub mod Packing
pub mod Writing
pub mod Laws
pub mod Lining
