-- Why the printed run stands in the output.
-- texts of a state, one after the other
pub mod StateTexts
-- the texts of parts, lines and rows; the rows of a state
pub mod LineTexts
pub mod StateRows
-- from the run to what is printed
pub mod PrintOutcomes
