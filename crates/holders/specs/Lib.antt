-- What the holder count answers.
pub mod StoredCounts
