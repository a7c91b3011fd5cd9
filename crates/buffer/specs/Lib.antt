-- What it is to write a text into a lent buffer.
pub mod Writing
-- What it is to have room in an output, and to write a text there.
pub mod Outputs
