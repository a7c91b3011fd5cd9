-- What the accessors say of the abstract program and state.
pub mod ProgramTable
-- where a thread stands, by numbers
pub mod Standing
pub mod StateTable
-- both tables stripped
pub mod StrippedTables
