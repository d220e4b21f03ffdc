pub mod Judging
pub mod Asking
pub mod Heads
pub mod Making
pub mod Acting
pub mod Loading
pub mod Listing
pub mod Same
