-- What the checks of a line answer.
pub mod Checked
-- and those of new
pub mod NewItems
