-- What the reader answers, and what its passes say of the definitions.
pub mod ReadAnswers
pub mod Sofar
pub mod Scanning
pub mod Linking
