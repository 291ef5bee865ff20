pub mod Said
pub mod Laid
