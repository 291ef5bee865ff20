pub mod Prefixes
pub mod Orders
pub mod Tight
