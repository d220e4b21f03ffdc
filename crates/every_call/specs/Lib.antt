pub mod EveryCall
pub mod SinceLoad
pub mod TurnedDeliberation
