-- The laws that code needs, and what they rest on; what else is proved of the definitions stands in crates/theorems.
pub mod ListLaws
-- the matcher and the printer; at most one form fits a line; what was scanned; every accepted program is valid
pub mod Printing
pub mod OneForm
pub mod Scanned
pub mod Accepted
-- numbers and objects counted in lists; the walk through fields meets what is reached
pub mod Counts
pub mod Walks
-- the inversion of a moving turn; what it leaves of other threads; the state fits its program
pub mod Moves
pub mod OtherThreads
pub mod Keeps
-- who holds an object: how each way to move changes it, and how many there can be
pub mod HolderLaws
-- a run, turn by turn
pub mod Runs
-- one turn of the stripped script follows the guarded one; demand 3; the stripped script is valid
pub mod Simulation
pub mod Demand3
pub mod StrippedValid
-- a report's list; the numbers of the forms; the words of both tables
pub mod Rising
pub mod Reports
pub mod FormNumbers
pub mod TableWords
-- a text that was read comes back
pub mod Writer
-- a derived equality in the words of the definitions
pub mod Equal
