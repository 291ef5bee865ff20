pub mod Walker
pub mod Cut
