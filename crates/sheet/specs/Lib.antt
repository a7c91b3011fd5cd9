-- The check sheet: what each tick stands on; the sheet as text, byte for byte.
pub mod Ticks
pub mod SheetText
-- what is told of a program table
pub mod CapLines
pub mod SheetParts
-- and of both runs
pub mod Examined
pub mod Sheets
