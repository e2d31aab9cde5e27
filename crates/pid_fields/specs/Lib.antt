pub mod Checks
pub mod Reading
pub mod Writing
