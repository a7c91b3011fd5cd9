-- Why a text stands in the buffer.
-- texts one after the other; the codes of digits
pub mod Appends
mod Digits
-- the same of an output
pub mod Outputs
