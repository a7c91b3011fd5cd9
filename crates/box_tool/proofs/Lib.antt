-- Why the code of this crate keeps its contracts.
-- what a text begins with; numbers; what is printed and the status that goes by it; when that is 1
pub mod Begins
pub mod Numerals
mod JobTexts
mod Statuses
mod SheetStatus
