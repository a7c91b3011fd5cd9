-- What came of each turn of a list, counted.
pub mod Fates
-- and what the code counts
pub mod Counted
