-- What is said of a number.
pub mod Pages
