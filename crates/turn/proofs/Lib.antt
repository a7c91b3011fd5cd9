-- Why a turn on the tables does what the rules say.
-- the holder counts after a line's writes
mod Settled
-- a rule's result as the step taken; what a line says of the slots that are filled
pub mod TurnSteps
-- the frame where a thread stands, edited
mod Frames
-- the lines, by what they read and write
mod SlotLines
mod ObjectLines
mod NewLines
mod CopiesMade
mod CopyLines
mod CallLines
mod ChannelLines
mod SendLines
-- the line that a row's words tell
pub mod Dispatch
-- where a turn stands; which turns wait
pub mod Located
mod Waiting
