pub mod Gathering
pub mod Writing
pub mod Looking
pub mod Answering
