-- Why the code of this crate keeps its contracts: what a job prints of the parts of an input.
pub mod JobLaws
