-- Why the drawing stands in the buffer.
-- the lines of objects and fields; then the drawing of a table and of a run
mod GraphLines
mod Drawings
