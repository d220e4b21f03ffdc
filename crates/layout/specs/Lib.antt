pub mod GoodLayout
pub mod Entries
pub mod PlaceParts
