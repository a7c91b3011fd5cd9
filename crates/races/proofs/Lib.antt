-- Why the races' entry answers what the rules say.
-- what an event is to the state before it; what the tables tell of it
mod EventLaws
mod EventLines
-- what is noted, step by step
mod MarkSteps
-- the last place with a property; the marks, turn by turn; the last turn of a row; what is found is the last turn that races; the verdict
mod Lasts
mod Marked
mod Latest
mod Noted
mod Verdicts
-- the turns, one by one; the entry
mod TurnsJudged
mod RacesFound
