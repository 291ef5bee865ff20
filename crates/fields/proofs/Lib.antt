pub mod Scans
pub mod Laying
pub mod Parts
pub mod Tight
