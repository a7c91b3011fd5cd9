-- What the input's reading says of the definitions: the line of turns; the input as a whole.
pub mod Told
pub mod Given
