-- What the code of this crate says of the text: fixed words as numbers, parts, lists of items, a decoded line.
pub mod Words
pub mod Parts
pub mod Items
pub mod Decoded
