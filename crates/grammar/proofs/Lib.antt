-- Why the code of this crate keeps its contracts.
-- fixed words as numbers; numbers, operands and capabilities; lists of them
mod WordLaws
mod PartLaws
mod OperandWords
pub mod Many
mod ItemLists
mod Runs
-- a form read part by part, and what is kept of it
pub mod Told
mod Telling
mod WordForms
-- the front of a text and its first line; the only form that can fit; the line at a place
pub mod Fronts
