pub mod OnBounded
pub mod Listed
pub mod Ordered
pub mod Deliberating
pub mod EveryCall
pub mod SinceLoad
pub mod TurnedDeliberation
