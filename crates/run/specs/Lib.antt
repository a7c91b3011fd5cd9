-- What a run answers and leaves.
pub mod RunAnswers
-- the one way in
pub mod Made
-- and its parts: a run under way; the turns played, the end
pub mod Reached
pub mod Played
