pub mod Outcome
pub mod Selection
pub mod LastPass
pub mod Passes
