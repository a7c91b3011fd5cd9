-- What the printing of a run answers and leaves in the lent output; what it is to write a text of a state.
pub mod Outputs
pub mod StateWriting
