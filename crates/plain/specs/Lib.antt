pub mod Judging
pub mod Asking
pub mod Calls
pub mod Same
