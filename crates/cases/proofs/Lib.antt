pub mod Stripe
pub mod Looking
pub mod Deliberation
pub mod Bounded
