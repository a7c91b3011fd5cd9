-- What box save prints.
pub mod Saved
