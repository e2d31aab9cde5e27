pub mod Setpoint
pub mod Control
pub mod Output
pub mod Scanning
pub mod Entering
