pub mod InPlace
pub mod Lines
