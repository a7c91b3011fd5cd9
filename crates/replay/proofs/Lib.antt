-- Why the code of this crate keeps its contracts.
-- the last line and what stands before it; the turns line; the input taken apart
mod LastLine
mod TurnsLine
pub mod GivenLaws
