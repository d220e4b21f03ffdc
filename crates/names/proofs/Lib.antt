pub mod Sheets
pub mod Rules
pub mod Naming
pub mod Told
