pub mod Sheet
pub mod Alike
pub mod Held
