-- UTF-8 as RFC 3629 has it: its grammar, its characters' numbers, what is proved of both, and what the contracts name.
pub mod Grammar
pub mod Characters
pub mod Reading
pub mod Theorems
