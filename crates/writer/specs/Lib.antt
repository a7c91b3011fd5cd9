-- What the writer answers, and what a table's lines are as text.
pub mod WriteAnswers
pub mod Lines
