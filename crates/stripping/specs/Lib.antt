-- What the stripped script's run answers and leaves; what is printed of it.
pub mod StrippedRuns
pub mod StrippedTexts
