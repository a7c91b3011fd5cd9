-- What the drawing answers, and what it leaves in the lent buffer.
pub mod Drawings
