-- Why the accessors keep their contracts.
-- the program table's words; the lines of a program
pub mod ProgramTable
pub mod ProgramLines
-- edits of the abstract state
pub mod StateEdits
-- a place for each value of a state of a run
pub mod Places
-- the state table's words; what is read of it
pub mod StateTable
pub mod StateReads
-- slots, records and frames written
mod StateMoves
mod StateRecords
pub mod StateFrames
-- holder counts
pub mod HolderCounts
-- both tables stripped
pub mod StrippedWords
