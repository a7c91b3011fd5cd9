-- Why the checks answer what the rules do.
-- checks one after the other; what a state of a run says of the place where a thread stands
pub mod CheckLaws
pub mod Equal
pub mod Standing
-- operands and casts; fields and swaps; channels; calls
mod OperandChecks
pub mod ObjectChecks
pub mod ChannelChecks
pub mod CallChecks
-- a test of each element of a list
pub mod AnySeen
-- the items of a new; the values that it would hold; both
pub mod ItemChecks
mod HeldChecks
pub mod NewChecks
