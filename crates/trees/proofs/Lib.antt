pub mod Arguments
pub mod Sizes
pub mod Sames
pub mod Tight
