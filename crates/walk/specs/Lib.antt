-- What the walk through fields meets, and in which words.
pub mod Walking
-- what a walk leaves of the objects met
pub mod Walked
