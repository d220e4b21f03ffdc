pub mod Finished
pub mod Stepping
pub mod Running
pub mod Telling
pub mod Taking
