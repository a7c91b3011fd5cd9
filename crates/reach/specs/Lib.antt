-- What the reach report answers.
pub mod Reported
