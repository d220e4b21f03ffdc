pub mod FirstByte
pub mod Steps
pub mod Grammar
pub mod Characters
