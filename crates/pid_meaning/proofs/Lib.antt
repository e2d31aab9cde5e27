pub mod Facts
pub mod Setpoints
pub mod Renewals
pub mod Controls
pub mod Drives
pub mod Scans
pub mod Entries
