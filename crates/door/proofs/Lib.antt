pub mod Accepting
pub mod Written
pub mod Asking
pub mod Refusals
pub mod Told
pub mod First
