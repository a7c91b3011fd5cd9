-- Document 01 as definitions, in its order: what must be believed, and nothing else.

-- the numbers of refusals and stops, a refusal as an answer, the mosts, small functions on lists
pub mod Numbers
pub mod Refusals
pub mod Mosts
pub mod Lists
-- "Written form": texts and lines; a script as values; templates, matcher and printer; refusals 1 to 9; what an accepted program guarantees
pub mod Text
pub mod Script
pub mod Templates
pub mod Reading
pub mod Valid
-- "Machine": the state; the walk through fields; one turn; a run and its end; what every state of a run is like
pub mod State
pub mod Walk
pub mod Turn
pub mod Run
pub mod Fits
-- the forms by name and number; who holds an object, and how a turn changes that; both tables to the word
pub mod Forms
pub mod Holders
pub mod HolderChanges
pub mod Tables
-- "Guarded and stripped": demand 3
pub mod Stripped
-- the reach report; what the calls answer and leave in what was lent; a script written back out
pub mod Reach
pub mod Calls
pub mod Writer
-- "The printed run": the listing, and boxrun's own input; the objects drawn as a graph
pub mod Listing
pub mod Input
pub mod Drawing
-- which turns of a run race
pub mod Races
