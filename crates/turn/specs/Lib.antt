-- What a turn on the tables does.
pub mod Performed
-- what a copy makes
pub mod Copied
