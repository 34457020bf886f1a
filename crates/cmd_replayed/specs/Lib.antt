pub mod Replay
pub mod Made
