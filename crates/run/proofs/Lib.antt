-- Why the run answers what the rules say.
-- the turns, one after the other; how it ends
mod TurnByTurn
mod EndLaws
-- what the answer tells of the reading; from the text to the answer
pub mod AnswerTells
pub mod Answering
