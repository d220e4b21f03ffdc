pub mod First
pub mod Descent
pub mod Made
pub mod Ran
pub mod InPlace
