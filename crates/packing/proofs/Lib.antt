pub mod Limits
pub mod Tables
pub mod Packs
pub mod Says
