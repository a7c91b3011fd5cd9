-- What a word commands and a number is, what is printed of an input, and the status.
pub mod Commands
pub mod Numerals
pub mod Status
pub mod Jobs
