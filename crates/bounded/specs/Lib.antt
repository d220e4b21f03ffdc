pub mod Admitted
pub mod InPlace
