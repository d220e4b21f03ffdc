pub mod Numbers
pub mod Order
pub mod Step
pub mod Listing
pub mod Finished
pub mod Goals
pub mod Run
pub mod Weight
