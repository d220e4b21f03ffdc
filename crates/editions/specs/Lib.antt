pub mod Edition1
pub mod Moves
pub mod Calls
pub mod AsBefore
pub mod Edition2
pub mod Cases
