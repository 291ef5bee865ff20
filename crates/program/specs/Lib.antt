pub mod Says
pub mod Prepared
