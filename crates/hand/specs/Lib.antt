pub mod Checks
pub mod Reading
pub mod Starting
pub mod Writing
pub mod Scanning
pub mod Goodness
pub mod Laws
pub mod Trips
