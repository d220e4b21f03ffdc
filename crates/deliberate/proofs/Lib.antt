pub mod Marking
pub mod Descending
pub mod Making
pub mod Next
pub mod Deliberating
pub mod Calling
