pub mod Copying
pub mod GoodLayout
pub mod Joining
pub mod Within
pub mod Written
