pub mod Check
pub mod Eights
pub mod Tight
