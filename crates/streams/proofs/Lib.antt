-- Why the code of this crate keeps its contracts.
pub mod Parts
