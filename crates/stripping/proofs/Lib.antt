-- Why the stripped script runs as any other, and why its text is printed.
-- what is read and then stripped; from the text to its run
mod StrippedRead
mod StrippedMade
-- condition 4 on this script and this list
pub mod FourthCondition
-- from its table to its text; from the input to what is printed
mod StrippedPrints
mod StrippedOutcomes
