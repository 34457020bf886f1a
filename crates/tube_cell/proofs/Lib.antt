pub mod Observed
pub mod Law
pub mod Grows
pub mod Keeps
pub mod Learns
pub mod Raises
pub mod Acts
pub mod Publishes
