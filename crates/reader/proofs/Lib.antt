-- Why the reader keeps its contracts.
-- lines of a text, byte by byte; the checks of a line; the scan of all lines; refusal 8 on the table
mod Lines
mod LineChecks
mod Scan
mod Links
-- what reading comes to
pub mod Outcome
