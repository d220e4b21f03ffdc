pub mod Marks
pub mod AddDel
pub mod Entries
pub mod Rows
pub mod GoodCard
pub mod Accepted
