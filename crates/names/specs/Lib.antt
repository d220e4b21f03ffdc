-- Move names in two languages (02, Wish 8): a sheet, what the call answers, and what is proved of both.
pub mod Sheets
pub mod Naming
pub mod Working
pub mod Theorems
