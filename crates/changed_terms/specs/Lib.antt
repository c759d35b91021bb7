pub mod Overlays
pub mod Changes
pub mod Taking
