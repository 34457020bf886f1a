pub mod Plans
pub mod Commands
pub mod Headline
pub mod SoundFile
pub mod ResumeAndFollow
