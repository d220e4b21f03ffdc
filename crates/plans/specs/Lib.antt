-- What the contracts of this crate name.
pub mod Plans
