pub mod Wholes
pub mod Shapes
pub mod Joined
pub mod Demands
pub mod Rows
pub mod Lookups
pub mod Programs
pub mod Rebased
