pub mod Numbers
pub mod Stored
pub mod Told
pub mod Units
pub mod Lists
