pub mod Tops
pub mod Greatest
pub mod Bounds
pub mod Written
pub mod Tight
