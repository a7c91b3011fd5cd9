-- What a job prints of the parts of an input.
pub mod Printing
