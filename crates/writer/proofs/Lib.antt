-- Why the text that reads to the table is written, and none where none does.
-- the text of a form from its words; the lines of a table, one after the other
mod Texts
mod Rows
-- from what was written beside the buffer to the answer
mod WriteOutcomes
