-- What the printed reports say.
pub mod ReachedLines
pub mod DrawnTexts
pub mod RaceTexts
