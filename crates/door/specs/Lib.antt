pub mod Ready
pub mod Admitted
pub mod Asking
pub mod InPlace
pub mod Words
