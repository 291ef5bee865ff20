pub mod Scenes
pub mod Calls
